pub mod Regular
pub mod Texts
pub mod Lexed
pub mod Words
pub mod Rules
pub mod Table
pub mod Examples
