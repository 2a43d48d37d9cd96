-- The tracks in a gap: the strands of a net, the lowest net that passes a test, and what stands on each track after an action.
pub mod Strands
pub mod Nets
pub mod After
pub mod Changed
