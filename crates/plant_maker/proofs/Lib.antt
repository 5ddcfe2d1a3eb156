pub mod PickLaws
pub mod MadeLists
pub mod EntryFaults
pub mod Chosen
pub mod Sound
pub mod MadeParts
