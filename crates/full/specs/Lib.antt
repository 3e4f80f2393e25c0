-- The full pass's contract, and under inner what only its own functions cite.
pub mod Full
pub mod inner
