-- The rules: the free tracks that they ask for are there, whatever they choose is good, the pairs of kinds by number, the second strand, which matters only
-- where a net leaves on it, the double nets, which matter only where a pin starts, the columns without pins, and what goes by the columns so far.
pub mod Room
pub mod Chosen
pub mod Kinds
pub mod Seconds
pub mod Doubles
pub mod Empty
pub mod SoFar
