pub mod Accounts
pub mod Decks
pub mod Steals
pub mod inside
