pub mod BoxChains
pub mod Chains
pub mod Laws
pub mod NodeChains
pub mod Shares
