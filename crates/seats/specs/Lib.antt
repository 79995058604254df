pub mod ListRefusals
pub mod SeatReports
pub mod PairSeatHonesty
pub mod GroupSeatHonesty
pub mod HonestRuns
pub mod HonestRounds
