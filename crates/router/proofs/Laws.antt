-- The laws that the functions' proofs go by, in the order of the argument.
-- Arrays   the tracks, the set of the free ones and the index of the nets' strands, as an action changes them
-- Lent     the arrays that the structs lend
-- Lowest   the lowest net of a set, and the lowest net on the tracks
-- Sets     the free tracks, the extended and the wide nets as sets
-- Scans    the second lowest strand of a net
-- Columns  the entries of a column
-- Sweeps   what the arrays and sets say of a column
-- Doubles  the same of the mates and the unpaired double nets
-- Steps    from one gap to the next, and the columns drawn so far
-- Marking  the sets from one gap to the next
-- Begin    the arrays and sets as the sweep begins, and as it ends
-- Onward   from one net of a set to the next
-- Added    the columns added after column n
-- Past     a column's move past the last column
-- Late     the arrays and sets of one channel as those of another with the same first columns
-- Calls    from the row check's answer to the calls' promises
-- Standing arrays that stand for a channel of two-pin nets: as the sweep begins, after one column more, with a late net
pub mod Arrays
pub mod Lent
pub mod Lowest
pub mod Sets
pub mod Scans
pub mod Columns
pub mod Sweeps
pub mod Doubles
pub mod Steps
pub mod Marking
pub mod Begin
pub mod Onward
pub mod Added
pub mod Past
pub mod Late
pub mod Calls
pub mod Standing
