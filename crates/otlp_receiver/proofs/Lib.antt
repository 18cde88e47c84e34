mod Contents
mod ReadingSizes
mod Refusals
mod Fields
mod Known
mod Safety
