-- The count of pieces: `Counts`, pieces begun and joins; `Arrays`, the small steps and loops; `Positions`, a column in its drawing; `Step`, one point;
-- `Crossing`, points where nets only cross; `Pass`, one column and the next; `Splits`, the counts as refusal 16. The laws of labels are the crate `pieces`.
pub mod Counts
pub mod Arrays
pub mod Positions
pub mod Step
pub mod Crossing
pub mod Pass
pub mod Splits
