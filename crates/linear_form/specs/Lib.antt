pub mod Bounds
pub mod Columns
pub mod Listed
pub mod Points
pub mod Rows
