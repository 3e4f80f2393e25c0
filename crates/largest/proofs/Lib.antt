-- Laws that belong to no one function, in reading order.
pub mod MostCells
pub mod Scaling
pub mod FullAtWidth
pub mod InTurn
pub mod Contract
pub mod SmallerWidths
pub mod GreatestFirst
pub mod LargestInWords
pub mod WidthExample
