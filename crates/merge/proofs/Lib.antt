-- What a caller cites stands in Entered: when below(b,a) follows from below(a,b).
mod Loops
mod Rounds
pub mod Entered
