mod Held
mod Together
mod Book
mod Steps
mod Order
mod Known
mod Balance
mod Recalled
mod Handled
pub mod Basics
mod Putting
mod Fronts
mod Rising
mod Remaining
mod Waits
mod Sound
