pub mod Claims
pub mod Asked
