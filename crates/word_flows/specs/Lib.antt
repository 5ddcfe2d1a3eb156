pub mod Runs
pub mod Flows
pub mod Levels
pub mod Steps
pub mod Pairs
pub mod Ends
pub mod Sums
pub mod LastEnds
