-- What only the steps of a worker keep.
pub mod Working
