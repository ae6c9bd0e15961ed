mod Reaching
mod Sibling
mod Ending
pub mod Rounds
