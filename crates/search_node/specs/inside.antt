-- What only helpers of this crate keep.
pub mod Answers
pub mod Candidates
pub mod Plain
pub mod Spans
pub mod Splitting
pub mod Together
pub mod Warming
pub mod Weighings
