pub mod Values
pub mod Looks
pub mod Laws
pub mod Tables
pub mod Notes
pub mod inside
