-- What only helpers of the reading need.
pub mod Seen
