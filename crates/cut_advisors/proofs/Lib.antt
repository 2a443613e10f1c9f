mod AskedAdvisors
mod Positions
