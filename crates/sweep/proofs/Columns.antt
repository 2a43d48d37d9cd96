-- A column: the entries that an action draws, the actions whose column fits, and the nets whose strands it leaves alone.
pub mod Entries
pub mod Sound
pub mod Others
