pub mod Parts
pub mod Faults
pub mod Relations
pub mod Sound
pub mod inside
