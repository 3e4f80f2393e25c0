-- Document 02, P10: the numbers that loggers store, the place of each, and what a product by 8 keeps.
pub mod Value
pub mod Place
pub mod Product
pub mod inner
