mod BoxRows
mod RisingLeaves
mod Walks
mod Choice
mod BoxCounts
mod Worked
