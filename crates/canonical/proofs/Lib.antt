-- `Ranks`: where a number stands in a list that grows by new nets. `Order`: the nets of a channel in the order of their first pin; `FirstPins`: that this is
-- their order, and `OnlyOrder`: the only one. `NewNumbers`: the new numbers; `Renamed`: a channel and a renamed one; `Figures`: their density and family.
pub mod Ranks
pub mod Order
pub mod FirstPins
pub mod OnlyOrder
pub mod NewNumbers
pub mod Renamed
pub mod Figures
-- What the code goes by. `Numbering`: the pass that numbers the nets; `PutRows`: numbers put as bytes; `Answers`: the answer of `write` in each of its cases.
pub mod Numbering
pub mod PutRows
pub mod Answers
-- What Job 6 asks: `Theorems`. `Examples`: worked cases.
pub mod Theorems
pub mod Examples
