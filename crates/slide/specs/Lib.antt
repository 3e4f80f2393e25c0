-- What the slide pass settles. What only inner contracts cite stands under inner.
pub mod Slide
pub mod inner
