pub mod BlockedLaws
pub mod LeafLaws
