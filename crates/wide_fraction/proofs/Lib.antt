pub mod WidthLemmas
pub mod StepLemmas
pub mod Quotients
