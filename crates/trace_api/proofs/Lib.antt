mod Read
mod Held
mod Drawn
mod Made
mod Started
mod Said
mod Handing
