pub mod Benches
pub mod Apart
pub mod Added
