pub mod PresentCosts
pub mod Noted
pub mod AtCosts
