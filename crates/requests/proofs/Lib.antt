pub mod ReadLists
pub mod RunsOfLists
pub mod RoomFacts
pub mod FewVerdicts
