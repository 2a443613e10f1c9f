pub mod LiveLinks
pub mod Differences
pub mod LiveCosts
pub mod Indexes
