pub mod ReadingLaws
pub mod TakesLemmas
