pub mod Ranges
pub mod Tightenings
