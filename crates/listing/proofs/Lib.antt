-- `Digits`: decimals and how many digits they have; `Values`: what numbers they are. `Lines`: the parts of a text put by the loops. `Size`: how long a text
-- is at most. `Front`: only the drawing's own entries matter. `Examples`: the document's cases. `Channels`: the listing of a channel. `Records`: that of a
-- record, and what `knee` writes.
pub mod Digits
pub mod Values
pub mod Lines
pub mod Size
pub mod Front
pub mod Examples
pub mod Channels
pub mod Records
