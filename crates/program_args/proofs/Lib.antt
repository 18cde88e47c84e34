mod Bounds
mod Causes
mod Numbers
mod Simple
