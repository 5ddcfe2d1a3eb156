pub mod DealLaws
pub mod ReturnLaws
pub mod AccountLaws
