-- What only carries the proofs of functions and loops.
pub mod Tests
pub mod Entering
pub mod Walks
