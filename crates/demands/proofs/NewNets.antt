-- A new net of two pins: the number of its refusal is the first that applies. Assumes nothing.
use Prim.Native.Nat.{ℕ, ◌-◌, ◌≤◌, ◌<◌}
use mathlib.Core.Path.{◌≡◌, refl, sym, subst}
use mathlib.Core.Logic.{◌≢◌, ◌⊎◌, inl, inr, ⊎_elim}
use mathlib.Core.Bool.{Bool, true, false, not, ◌&&◌, ◌||◌}
use mathlib.Core.List.{List}
use native.Mathlib.Omega.{arith}
use native.Mathlib.Decide.{ℕ_discrete}
use lib.Dec.{eqb, ltb, leb}
use lib.ListN.{length, get_or}
use Rattle.grid.specs.Channel.{pick, pins}
use Rattle.grid.specs.Refusals.{first_refusal}
use Rattle.grid.proofs.Tests.{ltb-true, ltb-false, leb-false, eqb-true, eqb-false, and_true, Same, same, diff, same_by, Below, below, above, below_by}
use Rattle.placing.specs.Placing.{is_free_in, is_free, place_refused}
use Rattle.placing.proofs.Terminals.{Free, Accepted, accepted_by}
use Rattle.demands.specs.Table.{Table, First, line, Shut, of_new_net}
use Rattle.demands.proofs.Table.{by_test}
use Rattle.demands.proofs.Lines.{either, neither, less}

-- A NUMBER of a net
pub number-line : (net k : ℕ) (rest : Table) → ((eqb net 0 || ltb 256 net) ≡ false → First rest k)
    → First (line 6 ((net ≡ 0) ⊎ (256 < net)) rest) (pick (eqb net 0 || ltb 256 net) 6 k)
number-line net k rest =
    by_test (eqb net 0 || ltb 256 net) 6 k rest (either (eqb net 0) (ltb 256 net) (eqb-true net 0) (ltb-true 256 net))
    (neither (eqb net 0) (ltb 256 net) (eqb-false net 0) (less 256 net))

-- A TERMINAL
-- one of two tests fails
one_fails : {A B : Type 0} (a b : Bool) → (a ≡ false → A) → (b ≡ false → B) → (a && b) ≡ false → A ⊎ B
one_fails true b f g e = inr (g e)
one_fails false b f g e = inl (f refl)

-- or a third passes
fails_or : {A B C : Type 0} (a b c : Bool) → (a ≡ false → A) → (b ≡ false → B) → (c ≡ true → C) → (not (a && b) || c) ≡ true → A ⊎ (B ⊎ C)
fails_or false b c f g h e = inl (f refl)
fails_or true false c f g h e = inr (inl (g refl))
fails_or true true c f g h e = inr (inr (h e))

-- a column that is not free in a row
shut_in : (row : List ℕ) (c column : ℕ) → is_free_in row c column ≡ false → (column ≤ c) ⊎ ((length row < column) ⊎ (get_or row (column - 1) 0 ≢ 0))
shut_in row c column =
    one_fails (ltb c column) (leb column (length row) && eqb (get_or row (column - 1) 0) 0) (ltb-false c column)
    (one_fails (leb column (length row)) (eqb (get_or row (column - 1) 0) 0) (leb-false column (length row)) (eqb-false (get_or row (column - 1) 0) 0))

module _ (top bottom : List ℕ) (even : length top ≡ length bottom) (c column side : ℕ) where
  -- one that is not free is shut
  shut : is_free top bottom c column side ≡ false → Shut top bottom c column side
  unfolding is_free
  shut = go (eqb side 0) (same_by side 0) (ltb side 2) (below_by side 2)
    where
      go : (p : Bool) → Same side 0 p → (q : Bool) → Below side 2 q → (q && is_free_in (pick p top bottom) c column) ≡ false → Shut top bottom c column side
      go p s false (above h) e = inr (inr (inl h))
      go true (same z) true h e =
          ⊎_elim (λ (x : column ≤ c). inl x)
          (⊎_elim (λ (x : length top < column). inr (inl x)) (λ (x : get_or top (column - 1) 0 ≢ 0). inr (inr (inr (inl (z, x))))))
          (shut_in top c column e)
      go false (diff n) true (below h) e =
          ⊎_elim (λ (x : column ≤ c). inl x)
          (⊎_elim (λ (x : length bottom < column). inr (inl (omega arith)))
          (λ (x : get_or bottom (column - 1) 0 ≢ 0). inr (inr (inr (inr (omega arith, x))))))
          (shut_in bottom c column e)

  -- a free one lies right of the drawn columns and within the channel
  free_bounds : Free top bottom c column side → (c < column) × (column ≤ length top)
  free_bounds f = go (ℕ_discrete side 0)
    where
      go : Dec (side ≡ 0) → (c < column) × (column ≤ length top)
      go (yes z) = let g = f.above z in (g.right, g.within)
      go (no n) = let g = f.below (omega (arith, f.sided)) in (g.right, omega (arith, g.within))

  -- so it is not shut
  not_shut : Free top bottom c column side → Shut top bottom c column side → ⊥
  not_shut f (inl x) = omega (arith, (free_bounds f).0)
  not_shut f (inr (inl x)) = omega (arith, (free_bounds f).1)
  not_shut f (inr (inr (inl x))) = omega (arith, f.sided)
  not_shut f (inr (inr (inr (inl (z, x))))) = x (f.above z).empty
  not_shut f (inr (inr (inr (inr (z, x))))) = x (f.below z).empty

-- A NEW NET
module _ (top bottom : List ℕ) (even : length top ≡ length bottom) (c net column1 side1 column2 side2 : ℕ) where
  -- its number, and the places after it
  after-place : (a b d : Bool) (x : ℕ) → first_refusal (pick a 6 (pick b 21 (pick d 22 0))) x ≡ pick a 6 (pick b 21 (pick d 22 x))
  after-place true b d x = refl
  after-place false true d x = refl
  after-place false false true x = refl
  after-place false false false x = refl

  -- none of the three tests
  accepted_new_net : (eqb net 0 || ltb 256 net) ≡ false → ltb 0 (pins top bottom net) ≡ false
      → (not (is_free top bottom c column1 side1 && is_free top bottom c column2 side2) || (eqb column1 column2 && eqb side1 side2)) ≡ false
      → Accepted top bottom c net column1 side1 column2 side2
  unfolding place_refused
  accepted_new_net a b d = accepted_by top bottom c net column1 side1 column2 side2 (rw (a, b, d) refl)

  -- then neither terminal is shut, and they differ
  both_open : Accepted top bottom c net column1 side1 column2 side2
      → Shut top bottom c column1 side1 ⊎ (Shut top bottom c column2 side2 ⊎ ((column1 ≡ column2) × (side1 ≡ side2))) → ⊥
  both_open a (inl x) = not_shut top bottom even c column1 side1 a.first x
  both_open a (inr (inl x)) = not_shut top bottom even c column2 side2 a.second x
  both_open a (inr (inr (x, y))) = a.distinct x y

  pub new_net_lines : (x : ℕ) (rest : Table) → First rest x
      → First (of_new_net top bottom c net column1 side1 column2 side2 rest) (first_refusal (place_refused top bottom c net column1 side1 column2 side2) x)
  unfolding place_refused
  new_net_lines x rest f =
      subst (λ (k : ℕ). First (of_new_net top bottom c net column1 side1 column2 side2 rest) k)
      (sym (after-place (eqb net 0 || ltb 256 net) (ltb 0 (pins top bottom net)) taken x))
      (number-line net _ _ (λ a.
      by_test (ltb 0 (pins top bottom net)) 21 _ _ (λ e. omega (arith, ltb-true 0 (pins top bottom net) e))
      (λ e n. n (omega (arith, ltb-false 0 (pins top bottom net) e))) (λ b.
      by_test taken 22 x rest
      (fails_or (is_free top bottom c column1 side1) (is_free top bottom c column2 side2) (eqb column1 column2 && eqb side1 side2)
      (shut top bottom even c column1 side1) (shut top bottom even c column2 side2)
      (λ e. let (x, y) = and_true (eqb column1 column2) (eqb side1 side2) e in (eqb-true column1 column2 x, eqb-true side1 side2 y)))
      (λ d. both_open (accepted_new_net a b d)) (λ d. f))))
    where
      taken : Bool
      taken = not (is_free top bottom c column1 side1 && is_free top bottom c column2 side2) || (eqb column1 column2 && eqb side1 side2)
