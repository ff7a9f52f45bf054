mod Tallied
mod Listed
