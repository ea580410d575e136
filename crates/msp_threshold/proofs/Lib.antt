mod Rising
mod Starts
mod Facts
mod Meeting
mod Seated
mod Law
mod BackMeets
mod Bounds
