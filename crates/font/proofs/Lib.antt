-- Laws that belong to no one function, in reading order.
pub mod Table
pub mod Folded
pub mod Widths
pub mod Beginnings
pub mod CutTexts
pub mod Going
pub mod Contract
pub mod FilledLengths
pub mod TextExample
