mod Keeping
mod Tried
