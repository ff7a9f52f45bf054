mod Replays
mod Searches
mod GivenUp
mod Designs
mod SteadyPoints
