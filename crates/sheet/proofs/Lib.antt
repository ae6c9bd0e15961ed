-- What readers above cite stands in Follow.
pub mod Follow
mod Small
