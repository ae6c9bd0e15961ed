pub mod Linking
pub mod Elements
pub mod Labels
pub mod Writing
