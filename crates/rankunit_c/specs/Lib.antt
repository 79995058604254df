pub mod Numbers
pub mod Readings
pub mod Ranks
pub mod Verdicts
pub mod Outcomes
pub mod GroupRounds
pub mod Measures
pub mod PartLists
