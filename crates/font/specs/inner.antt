-- Definitions that no public contract names.
pub mod Table
pub mod Counts
