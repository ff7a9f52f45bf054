mod Names
mod Leaves
mod Rounds
mod Worked
