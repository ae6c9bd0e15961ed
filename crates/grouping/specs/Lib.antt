pub mod Rows
pub mod Grouping
