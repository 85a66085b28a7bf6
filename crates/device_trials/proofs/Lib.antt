mod Held
mod Empty
