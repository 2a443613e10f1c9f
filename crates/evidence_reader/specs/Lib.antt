pub mod Refusals
pub mod Stops
pub mod Sections
pub mod Stages
pub mod Laws
