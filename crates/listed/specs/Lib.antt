pub mod Shape
pub mod WellFormed
pub mod Conditions
pub mod Examples
