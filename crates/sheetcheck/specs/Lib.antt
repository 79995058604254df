pub mod InputAnswers
