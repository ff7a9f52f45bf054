mod Options
mod Parses
mod Readings
mod Inputs
mod Cuts
mod Answering
mod Doings
