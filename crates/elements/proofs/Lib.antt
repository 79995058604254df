pub mod OrderFacts
pub mod FirstFalls
pub mod Indexes
pub mod Powers
pub mod ListCounts
pub mod SortedLists
pub mod RankFacts
