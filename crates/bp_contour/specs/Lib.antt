-- All of these serve inner calls and loops alone. What a user must believe, `AreContours` and `IsAfter`, stands in bp_regions.
pub mod Ways
pub mod Table
pub mod Listed
pub mod Tours
