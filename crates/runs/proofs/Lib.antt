pub mod LawfulAnswers
pub mod Learning
