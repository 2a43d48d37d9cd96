-- What the customer must believe of the sweeps: `Tracks` (strands, and what an action does to them), `Rules` (the actions), `TwoPin`, `ThreePin` and `ManyPin`
-- (which action a column takes), `Pairs` (pairs of nets in three-pin channels), `Drawing` (gaps, columns, width and layout). `Working` serves laws and private
-- functions alone.
pub mod Tracks
pub mod Rules
pub mod TwoPin
pub mod ManyPin
pub mod Pairs
pub mod ThreePin
pub mod Drawing
pub mod Working
