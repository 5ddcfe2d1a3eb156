pub mod Decimal
pub mod Name
pub mod Words
pub mod Lines
pub mod Reading
pub mod inside
