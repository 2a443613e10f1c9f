pub mod PrefixLemmas
pub mod DeviationLemmas
pub mod GrownTrees
pub mod PutPrefixes
