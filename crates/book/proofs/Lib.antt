pub mod Participant
pub mod History
pub mod Functions
