pub mod FaultLaws
pub mod ListLaws
