-- What the functions' proofs cite: the calls on a book, the days opened over its files, and both on words.
pub mod OnFile
pub mod SoundBook
pub mod Begins
pub mod Answers
pub mod DaysOpened
pub mod OnWords
pub mod OnDeletions
pub mod Viewing
pub mod OnSettlements
pub mod SettlementsPut
pub mod OnBatches
pub mod OnPositions
