-- What the stages cite.
pub mod Find
pub mod Stage
