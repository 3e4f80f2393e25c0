-- What only inner contracts cite.
pub mod Spreads
pub mod Sets
pub mod Rest
pub mod Marks
pub mod Table
