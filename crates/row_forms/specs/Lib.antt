pub mod Columns
pub mod Pieces
pub mod Terms
pub mod Numbers
pub mod Sums
pub mod Sizes
pub mod Fits
pub mod Laws
