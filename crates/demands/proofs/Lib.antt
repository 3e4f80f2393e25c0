-- Laws that belong to no one function, in reading order; Demands proves the page of specs/ of that name.
pub mod Refusals
pub mod FullNumber
pub mod BestAndFull
pub mod TripsByContracts
pub mod Demands
pub mod OrderChanged
pub mod OneStrip
pub mod OneWeight
pub mod SmallestRun
pub mod Runs
pub mod Comparison
pub mod ThereAndBack
