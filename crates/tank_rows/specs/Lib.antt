pub mod Names
pub mod Families
pub mod TankRows
pub mod Laws
