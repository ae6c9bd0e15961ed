mod Taking
pub mod Passing
