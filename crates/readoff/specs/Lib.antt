pub mod Nodes
pub mod Written
pub mod Planned
