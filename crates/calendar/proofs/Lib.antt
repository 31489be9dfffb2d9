pub mod DateParts
pub mod Days
pub mod Lengths
pub mod YearDays
