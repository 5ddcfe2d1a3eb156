-- What only loops and helpers of this crate keep.
pub mod Given
