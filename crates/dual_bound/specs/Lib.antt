pub mod Conditions
pub mod Dual
pub mod Improving
pub mod Laws
pub mod inside
