pub mod Frames
pub mod Accepted
pub mod Claims
pub mod Earlier
pub mod NodeReasons
pub mod Reasons
pub mod Verdicts
pub mod inside
