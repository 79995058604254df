pub mod VerdictBits
pub mod ShortSearches
pub mod UnrefusedLists
pub mod HonestGroups
pub mod GroupReports
pub mod GroupRuns
pub mod DeclaredParts
