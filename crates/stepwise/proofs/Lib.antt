-- The laws of the sweep that its caller drives.
-- Begin      rows in 256 places, and the state as a sweep begins
-- Onwards    whether a column is left to draw, and what drawing columns one after another leaves
-- Late       the state with a late net
-- Positions  what a list of calls leads to
pub mod Begin
pub mod Onwards
pub mod Late
pub mod Positions
