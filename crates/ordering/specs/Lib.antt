pub mod Rows
pub mod Numbering
pub mod Listing
pub mod Groups
