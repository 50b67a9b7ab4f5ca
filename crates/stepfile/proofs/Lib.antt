pub mod Fronts
pub mod Inverse
pub mod Nestings
pub mod Walks
pub mod Depths
pub mod Conditions
pub mod Cuts
pub mod Theorems
