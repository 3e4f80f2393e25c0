-- Laws that belong to no one function, in reading order.
pub mod Slideable
pub mod AnySides
pub mod FurthestSlide
pub mod ExactCells
pub mod WalkAllowed
pub mod PlainMarks
pub mod WeightsIdle
pub mod FilledRows
pub mod RowByRow
pub mod WrittenSoFar
pub mod WalkedSoFar
pub mod FirstCell
pub mod Contract
