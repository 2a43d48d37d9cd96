-- `Labels`: how the pieces of a net are told apart. Nobody has to believe it: proofs/Whole makes of it `whole?`, which decides `OnePiece` and carries the
-- proof of its answer, and the checker cites that.
pub mod Labels
