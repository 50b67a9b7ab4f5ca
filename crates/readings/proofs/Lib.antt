pub mod Joints
pub mod One
pub mod Places
pub mod Permitted
pub mod Conditions
pub mod Numbers
pub mod Theorems
