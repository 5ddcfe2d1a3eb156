pub mod Rows
pub mod Dealing
pub mod inside
