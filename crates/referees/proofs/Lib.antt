pub mod Turns
pub mod Tallies
