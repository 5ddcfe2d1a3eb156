pub mod inside
pub mod Runs
pub mod Greedy
