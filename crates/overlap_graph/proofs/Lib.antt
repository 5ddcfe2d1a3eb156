pub mod SetLaws
pub mod GraphLaws
