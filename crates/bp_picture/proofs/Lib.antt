mod Distinct
mod Grown
mod Parts
mod Told
mod Unique
