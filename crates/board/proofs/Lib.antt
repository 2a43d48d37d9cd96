-- The laws of a channel on the drawing board.
-- Without    rows without the pins of a net, and the count at a gap without it
-- Loops      what the searches for a net's columns find
-- With       rows with a net added
-- Stored     the counts stored on a board, and the board as it starts
-- Made       the board after a change
-- Channels   the channel after changes, and what any list of them leads to
pub mod Without
pub mod Loops
pub mod With
pub mod Stored
pub mod Made
pub mod Channels
