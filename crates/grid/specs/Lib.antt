-- What the customer must believe of rows, nets and drawings. `Channel`: rows, density, families, tracks, refusals 4 to 7; `Nets`: the figures of each net;
-- `Places`: rows in 256 places; `Refusals`: what every call does by its number; `Answers`: those of the calls on rows; `Grid`: drawings and solutions;
-- `Segments`: a column's wires as the sweeps draw them; `View`: one column handed back. `Working` serves private functions alone.
pub mod Channel
pub mod Nets
pub mod Places
pub mod Refusals
pub mod Answers
pub mod Grid
pub mod Segments
pub mod View
pub mod Working
