pub mod Fronts
pub mod Lines
pub mod Numbers
