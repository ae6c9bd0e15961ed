pub mod Opens
pub mod Forests
pub mod Found
pub mod Following
pub mod Single
pub mod Records
pub mod Answers
