pub mod Actives
