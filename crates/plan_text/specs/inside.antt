-- What only readers and writers of lines keep.
pub mod Fields
pub mod Steps
pub mod Running
