pub mod Margins
pub mod Seats
pub mod inside
