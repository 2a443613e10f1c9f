pub mod Distances
pub mod Searches
pub mod Waiting
