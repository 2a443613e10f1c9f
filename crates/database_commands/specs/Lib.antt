pub mod Lsas
pub mod Identified
pub mod Routes
pub mod Found
pub mod Compares
pub mod Compared
