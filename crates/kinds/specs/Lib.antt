pub mod Kinds
pub mod Membership
pub mod Messages
pub mod Sets
