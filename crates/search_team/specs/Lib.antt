pub mod Teamwork
pub mod inside
