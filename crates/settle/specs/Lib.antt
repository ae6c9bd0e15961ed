pub mod Siblings
pub mod Settling
