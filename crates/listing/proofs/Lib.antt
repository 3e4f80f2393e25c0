-- Laws that belong to no one function, in reading order.
pub mod Lengths
pub mod Decimal
pub mod Spacing
pub mod Sums
pub mod StripText
pub mod PassAnswers
pub mod JobText
pub mod TextFits
