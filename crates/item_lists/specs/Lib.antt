pub mod Faults
pub mod Joined
pub mod Lending
