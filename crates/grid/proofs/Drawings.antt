-- Laws of drawings, in the order in which they rest on one another.
--   Step      from conditions on single columns, that the edges of a net are one piece: `one_piece`
--   Local     two ways to meet the condition on a column: all of a net leaves, or lies in one run
--   Flat      the entries of a column of the flat list: its two parts, and where each entry stands
--   Columns   any drawing made column by column, each of which fits, is a solution: `solution`
--   Segments  columns of five segments: a net that runs straight, is carried on or ends in one run meets the condition: `fares_local`
--   Ends      where its runs and strands meet, no end of it is loose: `tidy_edges`
--   Fits      where both hold of each net, a column of five segments fits: `segments_column`
--   Bound     no drawing of document 01 has fewer tracks than the density: `density_le`. It needs none of the others
-- A sweep is a solution by `segments_column` for each of its columns, and `more` and `solution` for the whole.
pub mod Step
pub mod Local
pub mod Flat
pub mod Columns
pub mod Segments
pub mod Ends
pub mod Fits
pub mod Bound
