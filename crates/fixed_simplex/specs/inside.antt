-- What only helpers of this crate ask.
pub mod Problems
