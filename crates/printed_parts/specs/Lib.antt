pub mod SharedParts
