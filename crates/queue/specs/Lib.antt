pub mod Schedule
pub mod Sorted
pub mod Holdings
pub mod Waiting
pub mod Runs
