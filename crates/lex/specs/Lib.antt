pub mod Answer
pub mod Lexing
pub mod Inside
pub mod Left
