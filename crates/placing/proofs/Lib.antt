-- The laws of a net placed in rows.
-- Search     the search for a net's pin
-- Terminals  what it says of a net and its terminals that it is not refused
-- Pins       one row with the net's pins
-- Placed     the channel with the net
pub mod Search
pub mod Terminals
pub mod Pins
pub mod Placed
