pub mod LsaFiles
pub mod LiveReadings
