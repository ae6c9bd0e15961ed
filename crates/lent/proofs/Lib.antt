pub mod Answered
pub mod Stores
