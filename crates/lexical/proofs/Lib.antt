pub mod Derivative
pub mod Theorem
pub mod States
pub mod Right
pub mod Looked
pub mod Unclosed
