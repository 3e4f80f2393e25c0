-- The listing's text, its contract, and under inner what only its own functions cite.
pub mod Text
pub mod Listing
pub mod inner
