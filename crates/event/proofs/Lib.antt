pub mod Encoding
pub mod Rooms
