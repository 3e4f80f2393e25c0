-- Definitions that no public contract names.
pub mod Worth
pub mod Names
pub mod Checked
pub mod Handed
pub mod Table
pub mod Trial
pub mod Tried
pub mod Row
pub mod Insertion
