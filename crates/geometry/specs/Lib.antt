-- The model of document 01, in its order: words about lists, coordinates, marks, strips, positions, overlap, placings, sliding, part layouts, refusals.
-- What only inner contracts cite stands under inner.
pub mod Lists
pub mod Dot
pub mod Mark
pub mod Strip
pub mod Position
pub mod Overlap
pub mod SignedEnds
pub mod Placing
pub mod Sliding
pub mod Layout
pub mod Refusal
pub mod Entry
pub mod Pass
pub mod Worked
pub mod inner
