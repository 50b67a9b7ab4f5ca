pub mod Laws
pub mod Spends
