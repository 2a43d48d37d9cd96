-- What the customer must believe of a channel on the drawing board: `Changes`, what a change does to a channel; `Board`, what the calls answer and leave.
-- `Working` serves private functions alone.
pub mod Changes
pub mod Board
pub mod Working
