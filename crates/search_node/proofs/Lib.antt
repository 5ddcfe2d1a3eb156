pub mod BlockLaws
pub mod CutLaws
mod DeadLaws
mod EntryLaws
pub mod EvenLaws
pub mod FamilyLaws
pub mod NameLaws
mod OfferLaws
mod PartLaws
mod PointLaws
pub mod PrefixLaws
mod ReachLaws
mod ToldLaws
pub mod ValueLaws
mod WarmLaws
mod WeighingLaws
mod ZeroLaws
