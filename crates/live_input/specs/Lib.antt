pub mod LsaFiles
pub mod LiveReadings
pub mod Laws
