pub mod Cells
pub mod Draw
pub mod Amounts
pub mod Blend
