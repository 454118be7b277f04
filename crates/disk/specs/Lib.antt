pub mod Refusals
pub mod Model
pub mod Tallies
pub mod Images
pub mod Layers
pub mod Tries
pub mod Bounds
pub mod History
