pub mod Cuts
pub mod Excess
pub mod CutRows
pub mod Laws
pub mod Proposals
