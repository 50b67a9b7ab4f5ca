pub mod Onward
pub mod Theorems
