pub mod Verdicts
pub mod Printing
