pub mod TakingLaws
pub mod WalkLaws
pub mod VerbLaws
pub mod ToldLaws
pub mod OrderLaws
pub mod FormLaws
pub mod LineLaws
