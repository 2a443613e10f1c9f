mod Examples
pub mod Sets
pub mod ShrinkingLaws
pub mod TreesOfRequests
pub mod LargeBudgets
pub mod Asking
