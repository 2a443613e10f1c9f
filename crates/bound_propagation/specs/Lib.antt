pub mod Tightening
pub mod Ranges
