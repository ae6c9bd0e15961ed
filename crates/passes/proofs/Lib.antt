pub mod Chain
mod Joining
mod Weights
mod Final
mod Document
