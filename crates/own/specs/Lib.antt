pub mod Own
pub mod Inside
