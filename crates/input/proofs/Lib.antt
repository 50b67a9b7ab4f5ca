pub mod Reading
pub mod Plain
