pub mod Entering
pub mod Reporting
pub mod Lines
