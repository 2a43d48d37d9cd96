-- The sweep of three-pin channels.
-- Pairs      the net that ends last, and the mates
pub mod Pairs
-- Weights    what each net weighs, and how sums over all nets are compared
pub mod Weights
-- Kept       the invariant, and the pair that a column forms
pub mod Kept
-- Mates      the mates after a column, and what keeps the invariant
pub mod Mates
-- Gains      what the nets weigh after a column
pub mod Gains
-- Space      the free tracks that the rules ask for
pub mod Space
-- Works      what it takes for a move to work
pub mod Works
-- Still      the moves that form no pair and take no free track
pub mod Still
-- Calm       a calm column: no pin ends its net and no net is extended
pub mod Calm
-- Continues  two pins of which one continues its net, where no net is reduced
pub mod Continues
-- Starts     only starting pins, where no double net is unpaired
pub mod Starts
-- Reduces    an unpaired double net is reduced
pub mod Reduces
-- Doubles    the unpaired double nets of a gap
pub mod Doubles
-- Chosen     whatever move the rules choose works
pub mod Chosen
-- Sweep      the invariant in every gap, and so the moves are good
pub mod Sweep
