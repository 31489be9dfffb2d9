-- Whole histories: every list of calls, from what holds of one participant.
pub mod Advances
pub mod Parts
pub mod Events
pub mod PartEvents
pub mod LawfulCalls
pub mod Lift
pub mod Higher
pub mod Openings
pub mod OneCount
pub mod Private
pub mod Life
pub mod Retired
