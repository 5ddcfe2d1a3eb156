pub mod Picks
pub mod Choices
pub mod Made
pub mod Laws
