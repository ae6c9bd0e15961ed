-- What the readers of lines cite stands in Returns.
mod Scan
pub mod Returns
mod EndReturns
