mod Received
mod Strips
mod Zips
