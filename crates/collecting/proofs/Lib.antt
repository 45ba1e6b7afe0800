mod Choosing
mod Climbing
mod Filling
