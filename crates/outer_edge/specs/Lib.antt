pub mod CallList
pub mod FileList
pub mod MemoryShelf
pub mod MemorySink
pub mod Reading
pub mod Rose
pub mod ShelfFault
pub mod Takes
