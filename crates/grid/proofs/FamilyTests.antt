-- The family of a channel by the tests of the code: over the pin counts of the nets, and over the columns. Assumes nothing.
use Prim.Native.Nat.{ℕ, suc, ◌+◌, ◌<◌}
use mathlib.Core.Path.{◌≡◌, refl, sym, ap, ap₂, ◌∙◌}
use mathlib.Core.Logic.{◌≢◌, inl}
use mathlib.Core.Bool.{Bool, true, false, not, ◌&&◌, ◌||◌}
use mathlib.Core.List.{List}
use native.Mathlib.Omega.{arith}
use native.Mathlib.Numerals.{add-one}
use lib.Dec.{eqb, ltb}
use lib.ListN.{length, get_or}
use Rattle.grid.specs.declared.Family.TheVariants.{TwoPin, ThreePin, ManyPin}
use Rattle.grid.specs.Channel.{pick, count, pins, left, pins_within, first_two_at, first_two_to, family}
use Rattle.grid.specs.Nets.{first_column, table}
use Rattle.grid.specs.Working.{Rows, some_to, first_two_by}
use Rattle.grid.proofs.Tests.{eq-eqb, ne_eqb, Same, diff, same_by}
use Rattle.grid.proofs.Rows.{pin_left}
use Rattle.grid.proofs.Nets.{FirstSide, seen, none, ahead, first_by}
use Rattle.grid.proofs.Scanning.{none_over, Passed}
use Rattle.grid.proofs.Tables.{at_net}

-- THE FIRST TWO PINS IN ONE COLUMN

-- a net with a pin in column c + 1 has none before it just if that is its first column
starts : (top bottom : List ℕ) (v c : ℕ) → v ≢ 0 → c < length top → get_or top c 0 ≡ v
    → eqb (left top bottom c v) 0 ≡ eqb (first_column top bottom v) (suc c)
unfolding first_column
starts top bottom v c n h e =
    go (left top bottom c v) (left top bottom (suc c) v) (first_column top bottom v)
    (first_by top bottom v n c (length top) (omega arith))
    (first_by top bottom v n (suc c) (length top) (omega arith))
    (pin_left top bottom v c n (inl e))
  where
    go : (L M f : ℕ) → FirstSide L f c → FirstSide M f (suc c) → 0 < M → eqb L 0 ≡ eqb f (suc c)
    go L M f (seen a b d) s p = ne_eqb L 0 (omega arith) ∙ sym (ne_eqb f (suc c) (omega arith))
    go L M f (none a b) (seen x y w) p = absurd (omega arith)
    go L M f (none a b) (none x y) p = absurd (omega arith)
    go L M f (none a b) (ahead x y) p = absurd (omega arith)
    go L M f (ahead a b) (seen x y w) p = eq-eqb L 0 a ∙ sym (eq-eqb f (suc c) (omega arith))
    go L M f (ahead a b) (none x y) p = absurd (omega arith)
    go L M f (ahead a b) (ahead x y) p = absurd (omega arith)

module _ (top bottom first counts : List ℕ) (rows : Rows top bottom) (ef : first ≡ table (first_column top bottom)) (ec : counts ≡ table (pins top bottom)) where
  -- what the tables say of column c + 1
  by_tables : (c : ℕ) → c < length top → first_two_by first counts (suc c) (get_or top c 0) (get_or bottom c 0) ≡ first_two_at top bottom c
  unfolding first_two_at
  by_tables c h = go (eqb v 0) (same_by v 0)
    where
      v : ℕ
      v = get_or top c 0

      go : (z : Bool) → Same v 0 z
          → (not z && (eqb v (get_or bottom c 0) && (eqb (get_or counts v 0) 3 && eqb (get_or first v 0) (suc c))))
          ≡ (not z && (eqb v (get_or bottom c 0) && (eqb (pins top bottom v) 3 && eqb (left top bottom c v) 0)))
      go true s = refl
      go false (diff n) =
          let small = none_over top c rows.above in
          let k = at_net (pins top bottom) counts ec v (omega arith) small in
          let f = at_net (first_column top bottom) first ef v (omega arith) small in
          ap (λ (b : Bool). eqb v (get_or bottom c 0) && b)
          (ap₂ ◌&&◌ (ap (λ (x : ℕ). eqb x 3) k) (ap (λ (x : ℕ). eqb x (suc c)) f ∙ sym (starts top bottom v c n h refl)))

  -- one column more, over the code's variables
  pub first_two_more : (c p q : ℕ) → Passed top bottom c p q → (found r : Bool) (n : ℕ) → n ≡ c + 1 → found ≡ first_two_to top bottom c
      → r ≡ first_two_by first counts n p q → (found || r) ≡ first_two_to top bottom (c + 1)
  unfolding first_two_to
  first_two_more c p q w found r n en e er =
      ap₂ ◌||◌ e (
      er
      ∙ ap (λ (m : ℕ). first_two_by first counts m p q) (en ∙ add-one c)
      ∙ ap₂ (λ (x y : ℕ). first_two_by first counts (suc c) x y) w.above w.below
      ∙ by_tables c w.inside
      )
      ∙ ap (first_two_to top bottom) (sym (add-one c))

-- no column
pub first_two_none : (top bottom : List ℕ) → first_two_to top bottom 0 ≡ false
unfolding first_two_to
first_two_none top bottom = refl

-- THE FAMILY

-- the family, by whether a net has three or more pins, whether one has four or more, and whether a column has the first two of three
pub family_by : (top bottom : List ℕ) (three four : Bool)
    → three ≡ some_to (λ v. ltb 2 (pins top bottom v)) 256 → four ≡ some_to (λ v. ltb 3 (pins top bottom v)) 256
    → pick three (pick (four || first_two_to top bottom (length top)) ManyPin ThreePin) TwoPin ≡ family top bottom
unfolding family pins_within
family_by top bottom three four e f =
    ap₂ (λ (a b : Bool). pick a (pick (b || first_two_to top bottom (length top)) ManyPin ThreePin) TwoPin) e f
    ∙ go (eqb (count (λ v. ltb 2 (pins top bottom v)) 256) 0) (eqb (count (λ v. ltb 3 (pins top bottom v)) 256) 0) (first_two_to top bottom (length top))
  where
    go : (a b d : Bool) → pick (not a) (pick (not b || d) ManyPin ThreePin) TwoPin ≡ pick a TwoPin (pick (b && not d) ThreePin ManyPin)
    go true b d = refl
    go false true true = refl
    go false true false = refl
    go false false d = refl
