-- The drawing: the sweep gap by gap, the columns added, and the whole; what a column without pins draws, and that the columns added are the sweep's own past
-- column n; sweeps that do the same, channels that are drawn as before columns without pins were put to work, and how far two channels are drawn alike.
pub mod Sweep
pub mod Added
pub mod Whole
pub mod Joined
pub mod Past
pub mod Same
pub mod Before
pub mod Beginning
