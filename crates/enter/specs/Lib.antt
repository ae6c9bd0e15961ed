pub mod Entered
pub mod Rows
