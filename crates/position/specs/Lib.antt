pub mod Position
pub mod Inside
pub mod Examples
