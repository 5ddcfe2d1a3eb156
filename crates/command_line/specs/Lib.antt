pub mod PlainLine
pub mod inside
