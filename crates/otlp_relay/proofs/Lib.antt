mod Digits
mod Six
