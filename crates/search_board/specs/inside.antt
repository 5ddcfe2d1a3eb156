-- The rule that the board's words and all seats' views meet between any two steps.
pub mod Rule
pub mod Steps
pub mod Views
