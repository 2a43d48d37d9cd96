-- `sets::above` meets its contract: what is left of the word of k above k, and then the words after it.
use Prim.Native.Nat.{ℕ, ◌+◌, ◌*◌, ◌/◌, ◌%◌, ◌^◌, ◌<◌}
use mathlib.Core.Path.{◌≡◌, refl}
use mathlib.Core.List.{List}
use lib.ListN.{get_or}
use lib.Count.{count_trailing_zeros}
use native.Mathlib.Omega.{arith}
use borrow.Author.Rules.{rules}
use Rattle.sets.specs.Member.{LowestFrom}
use Rattle.sets.proofs.Members.{above_none, above_some, lower}
use Rattle.sets.proofs.above.Goals as goal

module _ (s : List ℕ) (k w b : ℕ) (small : k < 512) (e : w ≡ k / 64) (f : b ≡ k % 64) where
  -- in the word w of k, with its bit b
  some_above : get_or s w 0 < 2 ^ 64 → 0 < get_or s w 0 / 2 ^ b / 2 → LowestFrom s (k + 1) (k + 1 + count_trailing_zeros 64 (get_or s w 0 / 2 ^ b / 2))
  some_above z p = rw (e, f) (above_some s k small (rw e at z) (rw (e, f) at p))

  -- and after it
  none_above : (r : ℕ) → get_or s w 0 / 2 ^ b / 2 ≡ 0 → LowestFrom s ((w + 1) * 64) r → LowestFrom s (k + 1) r
  none_above r z l = lower (omega arith) (above_none s k small (rw (e, f) at z)) (rw e at l)

pub returns-then-x-ne0 : goal.returns-then-x-ne0
returns-then-x-ne0 c = some_above c.args.s.now (c.args.k % 512) _ _ (omega arith) c.word_of-w.ensures c.bit_of.ensures (search rules) (omega arith)

pub returns : goal.returns
returns c = none_above c.args.s.now (c.args.k % 512) _ _ (omega arith) c.word_of-w.ensures c.bit_of.ensures _ c.if-x-ne0.false c.from_word.ensures
