pub mod Entries
pub mod Nodes
pub mod Text
pub mod Ranges
pub mod Faults
pub mod Reading
pub mod inside
