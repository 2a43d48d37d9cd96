-- Rows whose nets fit are not refused, and those of two_pin nets are of that family. Assumes nothing.
use Prim.Native.Nat.{ℕ, ◌≤◌, ◌<◌}
use mathlib.Core.Path.{◌≡◌, refl, ap}
use mathlib.Core.Bool.{Bool, true, false, ◌||◌}
use mathlib.Core.List.{List, [], ◌∷◌}
use native.Mathlib.Omega.{arith}
use lib.Dec.{eqb, ltb}
use lib.ListN.{length}
use Rattle.grid.specs.declared.Family.TheVariants.{TwoPin}
use Rattle.grid.specs.Channel.{bit, times, over, count, pins, pins_within, family, rows_refused}
use Rattle.grid.proofs.Tests.{eq-eqb, ne_eqb, le-ltb, Below, below, below_by, eqb_same}
use Rattle.grid.proofs.Counting.{sum_zero}
use Rattle.grid.proofs.Rows.{RowsFit}

-- a row with no net over 256 has no number over 256
over_none : (l : List ℕ) → ((v : ℕ) → 256 < v → times v l ≡ 0) → over l ≡ false
unfolding over times
over_none [] h = refl
over_none (x ∷ xs) h = go (ltb 256 x) (below_by 256 x) (over_none xs (λ v b. omega (arith, h v b)))
  where
    go : (q : Bool) → Below 256 x q → over xs ≡ false → (q || over xs) ≡ false
    go true (below p) e = absurd (omega (arith, h x p, eqb_same x))
    go false s e = e

-- a net with no pin has none in either row
no_pins_lem : (top bottom : List ℕ) (v : ℕ) → pins top bottom v ≡ 0 → (times v top ≡ 0) × (times v bottom ≡ 0)
unfolding pins
no_pins_lem top bottom v e = (omega arith, omega arith)

-- a test that no net passes counts none
all_fail : (p : ℕ → Bool) → ((v : ℕ) → 1 ≤ v → p v ≡ false) → count p 256 ≡ 0
unfolding count
all_fail p h = sum_zero (λ v. bit (p v)) 256 (λ v b. ap bit (h _ (omega arith)))

module _ (top bottom : List ℕ) where
  -- the rows of nets that fit are not refused
  pub fit_accepted : RowsFit top bottom → length top ≤ 256 → rows_refused top bottom 256 ≡ 0
  unfolding rows_refused
  fit_accepted fit short =
      let lone = all_fail (λ v. eqb (pins top bottom v) 1) (λ v p. ne_eqb (pins top bottom v) 1 (fit.lone v p)) in
      rw (
        eq-eqb (length top) (length bottom) fit.same,
        le-ltb 256 (length top) short,
        over_none top (λ v p. (no_pins_lem top bottom v (fit.small v p)).0),
        over_none bottom (λ v p. (no_pins_lem top bottom v (fit.small v p)).1),
        eq-eqb (count (λ v. eqb (pins top bottom v) 1) 256) 0 lone,
      ) refl

  -- where no net has more than two pins, the family is that of two_pin nets
  pub two_pin_lem : ((v : ℕ) → 1 ≤ v → pins top bottom v ≤ 2) → family top bottom ≡ TwoPin
  unfolding family pins_within
  two_pin_lem h =
      let more = all_fail (λ v. ltb 2 (pins top bottom v)) (λ v p. le-ltb 2 (pins top bottom v) (h v p)) in
      rw (eq-eqb (count (λ v. ltb 2 (pins top bottom v)) 256) 0 more) refl
