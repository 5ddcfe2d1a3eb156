pub mod Choosing
pub mod Placing
