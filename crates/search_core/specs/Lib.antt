pub mod Cores
pub mod Events
pub mod Good
pub mod Laws
