mod Front
pub mod Moves
