pub mod ChainLaws
pub mod NodeNumbers
pub mod SettledLaw
pub mod ShareLaws
