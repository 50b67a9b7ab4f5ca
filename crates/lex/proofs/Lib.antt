pub mod Tables
pub mod Scan
pub mod Taken
pub mod Bits
pub mod Laws
pub mod Fronts
pub mod Writing
pub mod Placed
