-- The greatest cell width of document 02, P6, and what the call settles.
pub mod Widths
pub mod Largest
pub mod inner
