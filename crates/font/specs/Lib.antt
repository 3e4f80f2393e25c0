-- The strip font of document 02, P4, and what the three calls over it settle.
pub mod Letters
pub mod Text
pub mod Calls
pub mod inner
