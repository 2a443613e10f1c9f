pub mod Rivals
pub mod Deviations
pub mod Answers
pub mod Askers
pub mod Outlooks
