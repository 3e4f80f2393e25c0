-- What the best pass answers, in document 01's words. What only inner contracts cite stands under inner.
pub mod LeftOut
pub mod Best
pub mod inner
