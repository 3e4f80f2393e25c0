-- Definitions that no public contract names.
pub mod Plain
pub mod Room
pub mod Table
pub mod Walk
pub mod Answer
pub mod Handed
