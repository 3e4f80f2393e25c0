-- Definitions that no public contract names: the greatest cell count, and what the functions below the call ask and give.
pub mod Cells
pub mod Trial
