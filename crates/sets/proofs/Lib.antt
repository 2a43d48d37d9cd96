-- `Digits`: the binary digits of a word after shifts and bitwise operations. `Places`: word and bit of a number. `Members`: what the calls store and find, as
-- members.
pub mod Digits
pub mod Places
pub mod Members
