mod Meant
mod Cuts
