pub mod Levels
pub mod Tally
pub mod Latest
pub mod EndRules
pub mod Earnings
pub mod Kept
