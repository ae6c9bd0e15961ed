pub mod Rows
pub mod Passing
