pub mod Gathering
pub mod Reading
