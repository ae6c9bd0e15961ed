pub mod Bits
pub mod InLine
pub mod Listing
pub mod Layered
