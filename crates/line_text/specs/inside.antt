-- What only loops and helpers of this crate keep.
pub mod Digits
pub mod Rest
