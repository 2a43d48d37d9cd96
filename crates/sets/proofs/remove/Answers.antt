-- `sets::remove` meets its contract: the word that it stores is the one of `removed_by`.
use Prim.Native.Nat.{◌%◌}
use native.Mathlib.Omega.{arith}
use borrow.Author.Rules.{rules}
use Rattle.sets.proofs.Members.{removed_by}
use Rattle.sets.proofs.remove.Goals as goal

pub returns : goal.returns
returns c = rw (c.word_of.ensures, c.bit_of.ensures) (removed_by c.args.s.now (c.args.k % 512) (search rules) (omega arith))
