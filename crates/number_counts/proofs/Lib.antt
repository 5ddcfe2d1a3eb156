pub mod CountLaws
pub mod Members
