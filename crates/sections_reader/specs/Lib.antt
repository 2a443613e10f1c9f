pub mod FaultNumbers
pub mod Texts
pub mod Laws
pub mod Stages
