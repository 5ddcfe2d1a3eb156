pub mod DecimalLaws
pub mod SignedLaws
pub mod PartLaws
pub mod WordLaws
pub mod ReadingLaws
pub mod StepLaws
pub mod LinesLaws
