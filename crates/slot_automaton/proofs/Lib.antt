pub mod MaskLaws
pub mod WordLemmas
