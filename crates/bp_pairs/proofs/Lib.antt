pub mod PairNumbers
mod SteadyLists
