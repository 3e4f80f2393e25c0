-- Definitions that no public contract names.
pub mod Step
pub mod Put
