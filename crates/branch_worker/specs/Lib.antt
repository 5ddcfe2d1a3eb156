pub mod NoteBoxes
pub mod NoteOrder
pub mod Sites
pub mod Work
pub mod inside
