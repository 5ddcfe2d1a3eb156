pub mod Swaps
pub mod ByStart
pub mod Laws
