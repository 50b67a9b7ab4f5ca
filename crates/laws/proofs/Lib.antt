pub mod Rooms
pub mod Tests
