-- The job bytes of document 01, in its order: numbers, the format of a record, reading, writing, the two calls.
-- What only inner contracts cite stands under inner.
pub mod Number
pub mod Outcome
pub mod Format
pub mod Decode
pub mod Encode
pub mod Calls
pub mod inner
