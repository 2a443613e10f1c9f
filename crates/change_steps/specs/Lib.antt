pub mod Rollouts
pub mod Orders
pub mod Kinds
pub mod States
pub mod Outcomes
pub mod Search
pub mod Reaches
pub mod Walks
