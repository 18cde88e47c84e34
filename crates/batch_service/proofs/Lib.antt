mod Crosses
mod Begins
mod Names
mod Stops
mod Works
mod Each
mod GivenUp
