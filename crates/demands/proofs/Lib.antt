-- The demands are met: `Table`, `Lines`, `NewNets` and `Drawings` relate the libraries' numbers to the lines of the table, `Families` the families of
-- channels to their kinds in words; the others hold the theorems, named as in specs/.
pub mod Table
pub mod Lines
pub mod NewNets
pub mod Drawings
pub mod Refusals
pub mod Slices
pub mod Solutions
pub mod Families
pub mod Tracks
pub mod Needs
pub mod Spelling
pub mod EmptyColumns
pub mod Beginnings
pub mod Steps
pub mod Boards
pub mod Widest
