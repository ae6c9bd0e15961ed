-- What `merge` cites: in Loops, nothing spread; in Passing, the tables after a group was made and passed on what it has.
pub mod Loops
mod Added
pub mod Passing
