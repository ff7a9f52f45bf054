mod OptionLemmas
mod WordLemmas
mod Worked
