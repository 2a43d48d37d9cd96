-- The page to read first: what the customer asked, as statements over the definitions of the libraries. The theorems are in proofs/ under the same names.
-- `Table` is document 01's table of refusals in its own words.
pub mod Table
-- The first demand: `Refusals` says which number each call answers, and the zeros beside it; `Slices` what each lent slice holds afterwards.
pub mod Refusals
pub mod Slices
-- The second demand: `Solutions`.
pub mod Solutions
-- The third demand, whole: `Tracks`.
pub mod Tracks
-- Document 02's requests: of the slice that routing is lent, `Needs`; of the one spelling of a channel, `Spelling`; of columns without pins, `EmptyColumns`;
-- of channels with the same beginning, `Beginnings`; of a sweep that its caller drives, `Steps`; of a channel on the drawing board, `Boards`; of the widest
-- drawing, `Widest`.
pub mod Needs
pub mod Spelling
pub mod EmptyColumns
pub mod Beginnings
pub mod Steps
pub mod Boards
pub mod Widest
