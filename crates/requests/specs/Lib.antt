pub mod RequestLayout
pub mod RequestAnswers
pub mod Rooms
pub mod Printing
