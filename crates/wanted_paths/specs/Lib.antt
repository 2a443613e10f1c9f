pub mod Paths
pub mod Resolution
pub mod FaultNumbers
pub mod LineFaults
pub mod Keys
pub mod Walks
pub mod Excluded
