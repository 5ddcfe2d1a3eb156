-- What only loops and helpers of this crate keep.
pub mod Cells
pub mod Steps
pub mod Systems
