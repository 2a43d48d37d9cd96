-- The laws of the widest drawing.
-- Rows     the rows written: their entries, the pins left of each gap; that the channel is accepted, of two-pin nets, and how dense it is
-- Tracks   tracks two by two, and what nets that start, or end crossed, do to them
-- Gaps     the sweep over the rows, gap by gap, and how many columns it adds
-- Widest   the theorems
-- Filling  what the code writes into a row
-- Answers  what it answers
pub mod Rows
pub mod Tracks
pub mod Gaps
pub mod Widest
pub mod Filling
pub mod Answers
