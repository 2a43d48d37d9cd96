-- `sets::word_of` meets its contract: the shift gives the quotient.
use Prim.Native.Nat.{◌%◌}
use Rattle.sets.proofs.Places.{shift_quotient}
use Rattle.sets.proofs.word_of.Goals as goal

pub returns : goal.returns
returns c = shift_quotient (c.args.k % 512)
