-- `sets::insert` meets its contract: the word that it stores is the one of `inserted_by`.
use Prim.Native.Nat.{◌%◌}
use native.Mathlib.Omega.{arith}
use borrow.Author.Rules.{rules}
use Rattle.sets.proofs.Members.{inserted_by}
use Rattle.sets.proofs.insert.Goals as goal

pub returns : goal.returns
returns c = rw (c.word_of.ensures, c.bit_of.ensures) (inserted_by c.args.s.now (c.args.k % 512) (search rules) (omega arith))
