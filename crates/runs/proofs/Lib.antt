pub mod Covered
pub mod There
pub mod Alike
pub mod Joints
pub mod Rows
