pub mod Answers
pub mod Read
pub mod Records
pub mod Printed
pub mod Tellings
