pub mod Places
pub mod Order
pub mod Depth
pub mod Theorems
pub mod Forming
pub mod Checking
pub mod Resolving
