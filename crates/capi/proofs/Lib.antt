pub mod Solved
pub mod Translated
pub mod Drawn
pub mod Told
pub mod Shuffled
pub mod Capitals
pub mod Overlap
