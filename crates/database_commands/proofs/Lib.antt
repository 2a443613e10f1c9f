pub mod LsasRuns
pub mod Routes
pub mod Compares
