-- The three demands, what small functions over the public calls show of them, how much one weight can do, and which run of marks does not fit.
pub mod Demands
pub mod Compare
pub mod Trips
pub mod OneWeight
pub mod Runs
