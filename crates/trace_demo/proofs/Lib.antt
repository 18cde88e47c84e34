mod Causes
mod SameLosses
