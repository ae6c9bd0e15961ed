mod Apart
mod Enter
