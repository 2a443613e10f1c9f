pub mod Ends
pub mod Places
pub mod WrittenLsas
pub mod OneGraph
