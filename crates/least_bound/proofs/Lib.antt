pub mod CapLaws
mod Examples
pub mod Settling
pub mod ValidAnswers
