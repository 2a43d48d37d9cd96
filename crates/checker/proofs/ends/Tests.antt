-- The tests of refusal 17 as facts of the edges at points, and the edges at a point by the positions of their entries. Assumes nothing.
use Prim.Native.Nat.{ℕ, zero, suc, ◌+◌, ◌*◌, ◌<◌}
use mathlib.Core.Path.{◌≡◌, sym, ◌∙◌, ap}
use mathlib.Core.Logic.{◌≢◌, by_cases}
use mathlib.Core.Bool.{true, false, not}
use mathlib.Core.List.{List}
use lib.ListN.{length, get_or-eq_default}
use lib.Dec.{eqb}
use native.Mathlib.Omega.{arith}
use native.Mathlib.Decide.{ℕ_discrete}
use Rattle.grid.specs.Grid.{vertical_of, horizontal_of, comes_to, edges_among, edges_at}
use Rattle.grid.proofs.Tests.{eq-eqb, ne_eqb, eqb-true, eqb-false, not-true, and_true}
use Rattle.grid.proofs.Drawings.Flat.{vert_at, horz_at}
use Rattle.pieces.specs.Labels.{net_of, left_from}
use Rattle.checker.specs.Check.{loose_at, loose_in, loose_net, loose_column, loose_track}
use Rattle.checker.proofs.Least.{some_of, none_of, of_none, found_at}
use Rattle.checker.proofs.counting.Positions.{left_from_zero, left_from_suc}

module _ (t : ℕ) (D : List ℕ) (N x j : ℕ) where
  -- A POINT: the test fails where the edges are not one
  pub not_loose : (N ≢ 0 → edges_at (vertical_of D t) (horizontal_of D t) N x j ≢ 1) → loose_at t D N x j ≡ false
  unfolding loose_at
  not_loose h =
      by_cases (ℕ_discrete N 0) (λ e. rw (eq-eqb N 0 e))
      (λ n. rw (ne_eqb N 0 n) (ne_eqb (edges_at (vertical_of D t) (horizontal_of D t) N x j) 1 (h n)))

  -- and there alone
  pub loose_not : N ≢ 0 → loose_at t D N x j ≡ false → edges_at (vertical_of D t) (horizontal_of D t) N x j ≢ 1
  unfolding loose_at
  loose_not n e = eqb-false (edges_at (vertical_of D t) (horizontal_of D t) N x j) 1 (rw (ne_eqb N 0 n) at e)

  -- where they are one it holds
  pub is_loose : N ≢ 0 → edges_at (vertical_of D t) (horizontal_of D t) N x j ≡ 1 → loose_at t D N x j ≡ true
  unfolding loose_at
  is_loose n e = rw (ne_eqb N 0 n) (eq-eqb (edges_at (vertical_of D t) (horizontal_of D t) N x j) 1 e)

  -- and there alone
  pub loose_is : loose_at t D N x j ≡ true → (N ≢ 0) × (edges_at (vertical_of D t) (horizontal_of D t) N x j ≡ 1)
  unfolding loose_at
  loose_is h =
      let (m, n) = and_true (not (eqb N 0)) (eqb (edges_at (vertical_of D t) (horizontal_of D t) N x j) 1) h in
      (eqb-false N 0 (not-true (eqb N 0) m), eqb-true (edges_at (vertical_of D t) (horizontal_of D t) N x j) 1 n)

module _ (w t : ℕ) (D : List ℕ) (N : ℕ) where
  -- ALL POINTS: a net with no loose end
  pub no_loose : ((x j : ℕ) → x < w → j < t → loose_at t D N x j ≡ false) → loose_net w t D N ≡ false
  unfolding loose_net loose_in
  no_loose h = none_of w (loose_in t D N) (λ x l. none_of t (loose_at t D N x) (λ j k. h x j l k))

  -- and back
  pub loose_none : loose_net w t D N ≡ false → (x j : ℕ) → x < w → j < t → loose_at t D N x j ≡ false
  unfolding loose_net loose_in
  loose_none e x j l k = of_none t (loose_at t D N x) (of_none w (loose_in t D N) e x l) j k

  -- one with a loose end at point j of column x
  module _ (x j : ℕ) (l : x < w) (k : j < t) (e : loose_at t D N x j ≡ true) where
    pub some_loose : loose_net w t D N ≡ true
    unfolding loose_net loose_in
    some_loose = some_of w (loose_in t D N) x l (some_of t (loose_at t D N x) j k e)

    -- its first
    module _ (f : (x' j' : ℕ) → x' < x → j' < t → loose_at t D N x' j' ≡ false) (g : (j' : ℕ) → j' < j → loose_at t D N x j' ≡ false) where
      column_is_lem : x ≡ loose_column w t D N
      unfolding loose_column loose_in
      column_is_lem =
          found_at w (loose_in t D N) x (record { none = λ x' i. none_of t (loose_at t D N x') (λ j' m. f x' j' i m) }) l (some_of t (loose_at t D N x) j k e)

      pub first_point : (x ≡ loose_column w t D N) × (j ≡ loose_track w t D N)
      unfolding loose_track
      first_point = (column_is_lem, rw (sym column_is_lem) (found_at t (loose_at t D N x) j (record { none = g }) k e))

-- the entry that comes to a point from the left, by its position
left_at : (D : List ℕ) (t x j : ℕ) → j < t → comes_to (horizontal_of D t) x j ≡ net_of D (left_from (length D) t x + j)
left_at D t zero j l = sym (get_or-eq_default D 0 {n = left_from (length D) t 0 + j} (omega (arith, left_from_zero (length D) t)))
left_at D t (suc x) j l = horz_at D t x j l ∙ ap (net_of D) (omega (arith, left_from_suc (length D) t x))

-- THE EDGES AT A POINT by the four positions
pub edges_at_lem :
    (D : List ℕ) (t N x j b q : ℕ) → j < t → b ≡ x * (2 * t + 1) → q ≡ left_from (length D) t x
    → edges_at (vertical_of D t) (horizontal_of D t) N x j ≡ edges_among (net_of D (b + j)) (net_of D (b + j + 1)) (net_of D (q + j)) (net_of D (b + t + 1 + j)) N
unfolding edges_at
edges_at_lem D t N x j b q l e o =
    let a : vertical_of D t x j ≡ net_of D (b + j) = vert_at D t x j (omega arith) ∙ ap (net_of D) (omega arith) in
    let c : vertical_of D t x (suc j) ≡ net_of D (b + j + 1) = vert_at D t x (suc j) (omega arith) ∙ ap (net_of D) (omega arith) in
    let d : comes_to (horizontal_of D t) x j ≡ net_of D (q + j) = left_at D t x j l ∙ ap (net_of D) (omega arith) in
    let f : horizontal_of D t x j ≡ net_of D (b + t + 1 + j) = horz_at D t x j l ∙ ap (net_of D) (omega arith) in
    rw (a, c, d, f)
