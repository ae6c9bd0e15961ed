-- What callers cite stands in Loops: a table raised twice; and in Masks: a union of columns, from the table of columns.
pub mod Loops
mod Glue
mod Reach
pub mod Masks
mod ByTable
mod Making
