pub mod Writes
pub mod Wide
pub mod Says
