mod Sums
mod Orders
mod Parted
mod Takings
mod Joins
mod Worked
