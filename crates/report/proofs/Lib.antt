-- The laws of the net report.
pub mod Records
pub mod Tallies
pub mod WireLengths
pub mod Answers
pub mod Contents
