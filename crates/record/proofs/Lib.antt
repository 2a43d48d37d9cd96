-- `Refusals`: the numbers 1 to 3, at each way out of the check. `Rows`: the rows that are read. `Words`: the bytes of a channel's record, read back.
-- `Put`: what a writer has written, one list after another. `Examples`: the document's record.
pub mod Refusals
pub mod Rows
pub mod Words
pub mod Put
pub mod Examples
