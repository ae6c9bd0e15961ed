pub mod Product
pub mod Codes
pub mod Bytes
pub mod Parts
pub mod Gathering
pub mod Seeding
pub mod Together
pub mod Clashes
