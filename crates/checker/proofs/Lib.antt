-- `Passes`: the checker passes exactly the solutions. `Places`: the tests of 13 to 17, 19 and 20 in words. `Answers`: the checker's answer at each way out
-- of the code, its number, place, column and row. `Terminals`: the number of a wrong pin edge. `Least`: searches from below. `Limits`: positions in a
-- drawing. The laws of single entries, of the count of pieces and of loose ends stand below `entries`, `counting` and `ends`, with the proofs of the
-- functions there; `meeting` and `points`, one grid point, rest on those of `counting`.
pub mod Least
pub mod Limits
pub mod Terminals
pub mod Answers
pub mod Passes
pub mod Places
