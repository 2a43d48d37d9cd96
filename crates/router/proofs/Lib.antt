-- The proofs of the router; beside these files, a folder for each function whose contract needs a proof by hand.
-- Applied   what the sweep's laws say of a channel that the rows let through
-- Answered  the answers against the table of refusals, and what a routing call leaves in its slice
-- Laws      what the functions' proofs go by
pub mod Applied
pub mod Answered
pub mod Laws
