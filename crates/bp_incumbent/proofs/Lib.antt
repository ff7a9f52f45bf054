mod Entries
mod Sides
mod Draws
mod Halts
mod Passes
mod Gathers
mod Closes
