pub mod Numbers
pub mod Refusals
pub mod Tests
pub mod Laws
pub mod Routes
pub mod Costs
