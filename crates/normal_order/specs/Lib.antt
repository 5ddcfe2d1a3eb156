pub mod NormalWords
pub mod Laws
pub mod inside
