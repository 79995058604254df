pub mod AskedAnswers
pub mod PairTraces
pub mod GroupTraces
