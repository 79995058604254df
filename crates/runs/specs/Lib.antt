pub mod Answers
pub mod Finishes
pub mod Slips
pub mod Traces
pub mod Protocols
pub mod HistoryLaw
pub mod Learning
