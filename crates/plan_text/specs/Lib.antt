pub mod OpLine
pub mod Plans
pub mod PlanText
pub mod Ledger
pub mod inside
