pub mod Positive
pub mod Sums
pub mod Floors
pub mod SignedSums
pub mod Missing
pub mod Passing
