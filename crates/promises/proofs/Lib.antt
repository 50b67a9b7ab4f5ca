pub mod Passing
pub mod Done
pub mod Covering
pub mod Tree
pub mod Root
pub mod Written
pub mod Theorems
pub mod Examples
