mod InTime
mod Sweeps
mod Closed
mod EqualBounds
