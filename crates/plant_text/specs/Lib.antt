pub mod Names
pub mod Kinds
pub mod Walk
pub mod Gives
pub mod PlantText
pub mod Canonical
pub mod Laws
pub mod inside
