pub mod Rooms
pub mod Runs
