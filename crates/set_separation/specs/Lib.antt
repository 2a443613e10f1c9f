pub mod Outsiders
pub mod PrefixTrees
pub mod Deviations
pub mod SeenTrees
