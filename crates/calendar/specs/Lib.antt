pub mod Civil
pub mod DateLaws
pub mod Dates
pub mod Laws
pub mod Places
pub mod Years
