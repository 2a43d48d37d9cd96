-- Kinds as numbers, where those over 3 stand for 3.
use Prim.Native.Nat.{ℕ, zero, suc, ◌+◌, ◌*◌, ◌/◌, ◌%◌, min}
use mathlib.Core.Path.{◌≡◌, ap, ap₂, ◌∙◌}
use native.Mathlib.Omega.{arith}
use Rattle.sweep.specs.Rules.{Kind, kind_of}
use Rattle.sweep.proofs.Rules.Kinds.{at_number, NoneOf, none_of}

kind_capped : (k i : ℕ) → i ≡ min k 3 → kind_of i ≡ kind_of k
unfolding kind_of
kind_capped zero i e = ap kind_of e
kind_capped (suc zero) i e = ap kind_of e
kind_capped (suc (suc zero)) i e = ap kind_of e
kind_capped (suc (suc (suc k))) i e = let three : i ≡ 3 = omega arith in ap kind_of three

module _ {R : Type 0} (g : Kind → Kind → R) (k l i j : ℕ) (p : i ≡ min k 3) (q : j ≡ min l 3) {x : R} where
  -- what a function of two kinds answers, by the number m of their pair
  pub at_kinds : (m : ℕ) → 4 * i + j ≡ m → x ≡ g (kind_of (m / 4)) (kind_of (m % 4)) → x ≡ g (kind_of k) (kind_of l)
  at_kinds m e r = at_number g i j m e (omega arith, omega arith) r ∙ ap₂ g (kind_capped k i p) (kind_capped l j q)

  -- and by a number that is none of 1 to 15
  pub no_kinds : NoneOf (4 * i + j) 15 → x ≡ g (kind_of 0) (kind_of 0) → x ≡ g (kind_of k) (kind_of l)
  no_kinds n r = at_kinds 0 (none_of (4 * i + j) 15 (omega arith) n) r
