pub mod Names
pub mod Families
pub mod SlotRows
pub mod Ranges
pub mod Objective
pub mod Fits
pub mod inside
pub mod Laws
