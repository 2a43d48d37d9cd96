-- The proofs of the rules: beside this file, a folder for each function whose contract needs a proof by hand. Numbers: kinds as numbers.
-- Moves: moves by their actions.
pub mod Numbers
pub mod Moves
