-- Pairs of kinds: their number taken apart, and what a column of a two-pin or a three-pin channel does by them.
use Prim.Native.Nat.{ℕ, zero, suc, ◌+◌, ◌*◌, ◌/◌, ◌%◌, ◌≤◌, ◌<◌}
use mathlib.Core.Path.{◌≡◌, refl, sym, ap, ap₂, ◌∙◌}
use mathlib.Core.Bool.{Bool, true, false, not, ◌&&◌, ◌||◌}
use mathlib.Core.Logic.{◌≢◌}
use native.Mathlib.Omega.{arith}
use lib.Dec.{eqb, ltb}
use Rattle.grid.specs.Channel.{pick}
use Rattle.grid.proofs.Tests.{eqb-true, eqb-false, and_true, not-true, le-ltb, Same, same, diff, same_by, Below, below, above, below_by}
use Rattle.sweep.specs.declared.Action.{Action}
use Rattle.sweep.specs.declared.Pin.{Pin}
use Rattle.sweep.specs.declared.Free.{Free}
use Rattle.sweep.specs.declared.Joint.{Joint}
use Rattle.sweep.specs.declared.Double.{Double}
use Rattle.sweep.specs.declared.Move.{Move}
use Rattle.sweep.specs.Rules.{Kind, none, starts, continues, ends, kind_of, straight, join_net}
use Rattle.sweep.specs.TwoPin.{choose_two, by_kinds}
use Rattle.sweep.specs.ThreePin
use Rattle.sweep.specs.ThreePin.{still, join_else}
use Rattle.sweep.specs.Working.{no_pins, Kinded}
use Rattle.sweep.specs.Drawing.{no_joint}

-- what a function g of two kinds k and l answers, by their number m
pub at_number : {R : Type 0} (g : Kind → Kind → R) (k l m : ℕ) {x : R} → 4 * k + l ≡ m → (k ≤ 3) × (l ≤ 3) → x ≡ g (kind_of (m / 4)) (kind_of (m % 4)) → x ≡ g (kind_of k) (kind_of l)
at_number g k l m e h r =
    let p : k ≡ m / 4 = omega arith in
    let q : l ≡ m % 4 = omega arith in
    r ∙ sym (ap₂ (λ (x y : ℕ). g (kind_of x) (kind_of y)) p q)

-- a number that is none of 1 to k, as the rest of a match on them says it
abbrev pub NoneOf : ℕ → ℕ → Type 0
NoneOf m zero = Unit {0}
NoneOf m (suc k) = NoneOf m k × (m ≡ suc k → ⊥)

-- a number that is none of 1 to k, and at most k, is 0
pub none_of : (m k : ℕ) → m ≤ k → NoneOf m k → m ≡ 0
none_of m zero h r = omega arith
none_of m (suc k) h r = none_of m k (omega (arith, r.1)) r.0

-- two numbers that are not both 0
some_net : (a b : ℕ) → (a ≡ 0 → b ≡ 0 → ⊥) → (eqb a 0 && eqb b 0) ≡ false
some_net a b h = go (eqb a 0) (eqb b 0) refl refl
  where
    go : (p q : Bool) → eqb a 0 ≡ p → eqb b 0 ≡ q → (p && q) ≡ false
    go false q e f = refl
    go true false e f = refl
    go true true e f = absurd (h (eqb-true a 0 e) (eqb-true b 0 f))

-- as two that differ
pub not_both_none : (a b : ℕ) → (a ≡ b → ⊥) → (eqb a 0 && eqb b 0) ≡ false
not_both_none a b h = some_net a b (λ x y. h (x ∙ sym y))

-- and one net that has both pins
pub one_net : (a b : ℕ) → (not (eqb a 0) && eqb a b) ≡ true → (eqb a 0 && eqb b 0) ≡ false
one_net a b e = some_net a b (λ x y. eqb-false a 0 (not-true (eqb a 0) (and_true (not (eqb a 0)) (eqb a b) e).0) x)

-- the kind opposite one that does not continue, where the number of the pair is none of those of pins that start, end or are none
opposite_start : (k l : ℕ) → k < 2 → l ≤ 3 → 4 * k + l ≢ 0 → 4 * k + l ≢ 1 → 4 * k + l ≢ 3 → 4 * k + l ≢ 4 → 4 * k + l ≢ 5 → 4 * k + l ≢ 7 → l ≡ 2
opposite_start k l i h m0 m1 m3 m4 m5 m7 = omega arith

opposite_end : (k l : ℕ) → 2 ≤ k → k ≢ 2 → (k ≤ 3) × (l ≤ 3) → 4 * k + l ≢ 12 → 4 * k + l ≢ 13 → 4 * k + l ≢ 15 → l ≡ 2
opposite_end k l i j h a b c = omega arith

module _ (A B : Pin) (f : Free) (N : Joint) where
  -- a column of a two-pin channel with a pin that continues its net
  top_idle : (l : Kind) → by_kinds A B f N continues l ≡ straight
  unfolding by_kinds
  top_idle none = refl
  top_idle starts = refl
  top_idle continues = refl
  top_idle ends = refl

  bottom_idle : (k : Kind) → by_kinds A B f N k continues ≡ straight
  unfolding by_kinds
  bottom_idle none = refl
  bottom_idle starts = refl
  bottom_idle continues = refl
  bottom_idle ends = refl

  -- such are the pairs but for those of pins that start, end or are none
  pub idle : (k l : ℕ) → (k ≤ 3) × (l ≤ 3) → 4 * k + l ≢ 0 → 4 * k + l ≢ 1 → 4 * k + l ≢ 3 → 4 * k + l ≢ 4 → 4 * k + l ≢ 5 → 4 * k + l ≢ 7 → 4 * k + l ≢ 12 → 4 * k + l ≢ 13
      → 4 * k + l ≢ 15 → by_kinds A B f N (kind_of k) (kind_of l) ≡ straight
  unfolding kind_of
  idle k l h m0 m1 m3 m4 m5 m7 m12 m13 m15 = go (ltb k 2) (eqb k 2) (below_by k 2) (same_by k 2)
    where
      bottom : l ≡ 2 → by_kinds A B f N (kind_of k) (kind_of l) ≡ straight
      bottom e = ap (λ (z : ℕ). by_kinds A B f N (kind_of k) (kind_of z)) e ∙ bottom_idle (kind_of k)

      go : (p q : Bool) → Below k 2 p → Same k 2 q → by_kinds A B f N (kind_of k) (kind_of l) ≡ straight
      go true q (below i) j = bottom (opposite_start k l i h.1 m0 m1 m3 m4 m5 m7)
      go false true (above i) (same j) = ap (λ (z : ℕ). by_kinds A B f N (kind_of z) (kind_of l)) j ∙ top_idle (kind_of l)
      go false false (above i) (diff j) = bottom (opposite_end k l i j h m12 m13 m15)

  -- a column whose pins are not of one net goes by their kinds
  pub by_kinds_lem : (t : ℕ) {x : Action} → (not (eqb A.net 0) && eqb A.net B.net) ≡ false
      → x ≡ by_kinds A B f N (kind_of A.kind) (kind_of B.kind) → x ≡ choose_two t A B f N
  unfolding choose_two
  by_kinds_lem t i r = rw i (cc)

  -- and so by the number of their pair
  pub by_number : (t m : ℕ) {x : Action} → (not (eqb A.net 0) && eqb A.net B.net) ≡ false → 4 * A.kind + B.kind ≡ m → (A.kind ≤ 3) × (B.kind ≤ 3)
      → x ≡ by_kinds A B f N (kind_of (m / 4)) (kind_of (m % 4)) → x ≡ choose_two t A B f N
  by_number t m i e h r = by_kinds_lem t i (at_number (by_kinds A B f N) A.kind B.kind m e h r)

-- TWO PINS whose kinds say where there is none
module _ (A B : Pin) (a : Kinded A) (b : Kinded B) where
  -- where the number of two kinds is 0, there are no pins
  pub no_kinds_none : 4 * A.kind + B.kind ≡ 0 → no_pins A B ≡ true
  no_kinds_none e = rw (a.0 (omega arith), b.0 (omega arith))

  -- where it is another, there is one
  pub kinds_some : 4 * A.kind + B.kind ≢ 0 → no_pins A B ≡ false
  kinds_some h = some_net A.net B.net (λ x y. h (omega (arith, a.1 x, b.1 y)))

-- two kinds that rule 2 of three-pin channels asks for: there is a pin, and none ends its net
abbrev pub may_join : (k l : ℕ) → Bool
may_join k l = (ltb k 3 && ltb l 3) && (ltb 0 k || ltb 0 l)

-- the number of a pin that ends its net
ended : (k : ℕ) → ltb (suc (suc (suc k))) 3 ≡ false
ended k = le-ltb (suc (suc (suc k))) 3 (omega arith)

module _ (A B : Pin) (ea eb : ℕ) (f : Free) (N : Joint) (D M : Double) where
  -- rule 2 fits the kinds
  fits : (x : Move) → join_else N A.net B.net x ≡ pick (not (eqb N.net 0) && true) (still (join_net N A.net B.net)) x
  unfolding join_else
  fits x = go (eqb N.net 0)
    where
      go : (q : Bool) → pick q x (still (join_net N A.net B.net)) ≡ pick (not q && true) (still (join_net N A.net B.net)) x
      go true = refl
      go false = refl

  -- rule 2 does not fit them
  unfit : (x : Move) → x ≡ pick (not (eqb N.net 0) && false) (still (join_net N A.net B.net)) x
  unfit x = go (eqb N.net 0)
    where
      go : (q : Bool) → x ≡ pick (not q && false) (still (join_net N A.net B.net)) x
      go true = refl
      go false = refl

  -- a column of a three-pin channel joins the net of rule 2 where that fits the kinds; else it does what it does with no such net
  pub rule_two : (k l : ℕ) → ThreePin.by_kinds A B ea eb f N D M (kind_of k) (kind_of l)
      ≡ pick (not (eqb N.net 0) && may_join k l) (still (join_net N A.net B.net)) (ThreePin.by_kinds A B ea eb f no_joint D M (kind_of k) (kind_of l))
  unfolding ThreePin.by_kinds join_else kind_of
  rule_two zero zero = unfit _
  rule_two zero (suc zero) = fits _
  rule_two zero (suc (suc zero)) = fits _
  rule_two zero (suc (suc (suc l))) = rw (ended l) (unfit _)
  rule_two (suc zero) zero = fits _
  rule_two (suc zero) (suc zero) = fits _
  rule_two (suc zero) (suc (suc zero)) = fits _
  rule_two (suc zero) (suc (suc (suc l))) = rw (ended l) (unfit _)
  rule_two (suc (suc zero)) zero = fits _
  rule_two (suc (suc zero)) (suc zero) = fits _
  rule_two (suc (suc zero)) (suc (suc zero)) = fits _
  rule_two (suc (suc zero)) (suc (suc (suc l))) = rw (ended l) (unfit _)
  rule_two (suc (suc (suc k))) zero = rw (ended k) (unfit _)
  rule_two (suc (suc (suc k))) (suc zero) = rw (ended k) (unfit _)
  rule_two (suc (suc (suc k))) (suc (suc zero)) = rw (ended k) (unfit _)
  rule_two (suc (suc (suc k))) (suc (suc (suc l))) = rw (ended k) (unfit _)
