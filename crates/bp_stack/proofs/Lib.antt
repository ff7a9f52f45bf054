mod Beginnings
mod Ended
mod Lists
mod Turned
