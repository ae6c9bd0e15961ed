mod LineReturns
mod Answering
