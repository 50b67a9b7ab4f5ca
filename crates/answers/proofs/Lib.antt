pub mod Reached
pub mod Theorems
pub mod Lent
pub mod Rows
