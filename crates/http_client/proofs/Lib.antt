mod Fields
mod Sent
mod KeptSends
