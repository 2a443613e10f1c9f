pub mod AskerLemmas
pub mod DeviationLemmas
pub mod RivalLemmas
