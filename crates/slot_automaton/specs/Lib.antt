pub mod Blocked
pub mod Independence
pub mod Laws
pub mod Normal
