pub mod Settings
pub mod Blocked
pub mod LeafValue
pub mod PlainGuesses
pub mod TreeValue
pub mod Budget
pub mod Scales
