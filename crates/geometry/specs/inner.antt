-- Definitions that no public contract names.
pub mod At
pub mod Each
pub mod OnEntry
pub mod Outside
pub mod Place
pub mod Positions
pub mod Rising
pub mod Machine
