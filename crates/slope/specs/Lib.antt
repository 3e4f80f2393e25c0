-- The model of document 02, P13, in its order: tracks and their marks, squares, placings, what is on one line, and the call.
pub mod Track
pub mod Square
pub mod Line
pub mod Placing
pub mod Slope
pub mod Enough
pub mod inner
