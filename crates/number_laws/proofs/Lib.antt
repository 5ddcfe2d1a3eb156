pub mod BitLaws
pub mod FloorLaws
pub mod MissingLaws
pub mod PassingLaws
pub mod PositiveLaws
pub mod ProductLaws
pub mod SignedSumLaws
pub mod SumLaws
