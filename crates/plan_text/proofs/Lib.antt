pub mod OpLineLaws
pub mod TextLaws
pub mod PlanLaws
pub mod ReadingLaws
pub mod LedgerLaws
