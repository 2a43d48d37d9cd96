-- The laws of the sweeps, each folder from those before it.
-- Tracks   the strands of a net, and what stands on each track after an action
-- Columns  the entries that an action draws, and what makes its column fit: a sound action
-- Gaps     the invariant of the tracks in a gap, and what an action has to show besides to keep it
-- Actions  each action by itself is good: sound, and it keeps the invariant
-- Rules    the free tracks that the rules ask for are there, and whatever they choose is good; the pairs of kinds by number
-- ThreePin the sweep of three-pin channels: its invariant, and that its moves are good
-- Drawing  the invariant in every gap, the columns 1 to n, the columns added; what an empty column draws, the sweep past column n, and how far two channels
--          are drawn alike
-- Solved   the theorems
pub mod Tracks
pub mod Columns
pub mod Gaps
pub mod Actions
pub mod Rules
pub mod ThreePin
pub mod Drawing
pub mod Solved
