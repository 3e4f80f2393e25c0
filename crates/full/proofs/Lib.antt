-- Laws that belong to no one function, in reading order.
pub mod Candidates
pub mod StoredOnce
pub mod EndsHeld
pub mod SixteenBits
pub mod Within
pub mod First
pub mod Rows
pub mod Filling
pub mod RowPicks
pub mod Walking
pub mod Fits
pub mod Contract
