pub mod Steps
pub mod Covered
pub mod Theorems
pub mod Examples
