pub mod Fronts
pub mod Pages
