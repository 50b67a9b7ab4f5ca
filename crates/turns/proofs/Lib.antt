pub mod Following
pub mod Turning
