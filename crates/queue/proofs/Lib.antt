pub mod Placing
pub mod Order
pub mod WholeRuns
