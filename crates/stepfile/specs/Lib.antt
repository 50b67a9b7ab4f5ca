pub mod Front
pub mod Answer
pub mod Nesting
pub mod File
pub mod OneByOne
pub mod Good
pub mod Inside
pub mod Examples
