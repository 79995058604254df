pub mod Bodies
pub mod FilledSlices
pub mod HeaderPasses
pub mod LayoutFacts
pub mod Decisions
pub mod ReadAs
