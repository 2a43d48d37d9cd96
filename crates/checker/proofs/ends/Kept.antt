-- The search for loose ends: what is kept from point to point, and what it says at the end. Assumes nothing.
use Prim.Native.Nat.{ℕ, zero, suc, ◌+◌, ◌-◌, ◌≤◌, ◌<◌}
use mathlib.Core.Path.{◌≡◌, refl, sym, ◌∙◌, ap, subst}
use mathlib.Core.Logic.{◌≢◌, ◌⊎◌, inl, inr, ⊎_elim, by_cases}
use mathlib.Core.Bool.{Bool, true, false}
use mathlib.Core.List.{List}
use lib.Dec.{ltb}
use native.Mathlib.Omega.{arith}
use native.Mathlib.Decide.{ℕ_discrete}
use native.Mathlib.Numerals.{add-one}
use Rattle.std.specs.Prelude.{Option}
use Rattle.std.specs.Bool.{then_some}
use Rattle.grid.proofs.Tests.{Below, below, above, below_by}
use Rattle.grid.specs.Grid.{vertical_of, horizontal_of, edges_among, edges_at}
use Rattle.pieces.specs.Labels.{net_of}
use Rattle.checker.specs.declared.ends.Loose.{Loose}
use Rattle.checker.specs.Check.{least, some, loose_net, loose_column, loose_track}
use Rattle.checker.specs.Faults.{Before}
use Rattle.checker.specs.Working.{Crossing, Crossings, lowest_point, ColumnIs, Clean, FirstKept, Kept, LowestEnd, LowestLoose}
use Rattle.checker.proofs.Least.{NoneBelow, found_at, none_of}
use Rattle.checker.proofs.ends.Alone.{none_crossing, below_lowest, lowest_own}
use Rattle.checker.proofs.ends.Tests.{not_loose, is_loose, no_loose, some_loose, first_point, edges_at_lem}

-- BEFORE A POINT
-- before the next point of a column: before this one, or this one
before_next : {x' j' x j : ℕ} → Before x' j' x (j + 1) → Before x' j' x j ⊎ ((x' ≡ x) × (j' ≡ j))
before_next {x'} {j'} {x} {j} (inl l) = inl (inl l)
before_next {x'} {j'} {x} {j} (inr (e, l)) = by_cases (ℕ_discrete j' j) (λ o. inr (e, o)) (λ o. inl (inr (e, omega arith)))

-- and back, for one before this
before_more : {x' j' x j : ℕ} → Before x' j' x j → Before x' j' x (j + 1)
before_more (inl l) = inl l
before_more (inr (e, l)) = inr (e, omega arith)

-- before the next column: before the end of this one
before_column : {x' j' x t : ℕ} → j' < t → Before x' j' (x + 1) 0 → Before x' j' x t
before_column {x'} {j'} {x} k (inl l) = by_cases (ℕ_discrete x' x) (λ o. inr (o, k)) (λ o. inl (omega arith))
before_column k (inr (e, l)) = absurd (omega arith)

-- and back
column_before : {x' j' x t : ℕ} → Before x' j' x t → Before x' j' (x + 1) 0
column_before (inl l) = inl (omega arith)
column_before (inr (e, l)) = inl (omega arith)

-- a net's first loose end before a point is its first before a later one
carried :
    {t : ℕ} {D : List ℕ} {N x j column row x' j' : ℕ} (f : FirstKept t D N x j column row) → Before f.at_x f.at_j x' j'
    → FirstKept t D N x' j' column row
carried f o = record {
  at_x = f.at_x;
  at_j = f.at_j;
  column_is = f.column_is;
  row_is = f.row_is;
  track = f.track;
  passed = o;
  loose = f.loose;
  clean = f.clean;
}

-- ONE POINT MORE
module _ {D : List ℕ} {t x b q : ℕ} (C : ColumnIs D t x b q) {j : ℕ} (l : j < t) (s : Loose) (K : Kept t D x j s) where
  -- a net with no loose end there either
  cleaner : (N : ℕ) → N < s.net → (N ≢ 0 → edges_at (vertical_of D t) (horizontal_of D t) N x j ≢ 1) → Clean t D N x (j + 1)
  cleaner N p h = record {
    none = λ x' j' k o.
        ⊎_elim (λ (i : Before x' j' x j). (K.lower N p).none x' j' k i)
        (λ (i : (x' ≡ x) × (j' ≡ j)). rw (i.0, i.1) (not_loose t D N x j h)) (before_next o);
  }

  -- the loose ends there
  at_point :
      (N : ℕ) → edges_at (vertical_of D t) (horizontal_of D t) N x j
      ≡ edges_among (net_of D (b + j)) (net_of D (b + j + 1)) (net_of D (q + j)) (net_of D (b + t + 1 + j)) N
  at_point N =
      let e = C.number in
      edges_at_lem D t N x j b q l (rw e at C.column.base) (rw e at C.column.before)

  -- the old one stays, where each below it has none
  stays : ((N : ℕ) → N < s.net → N ≢ 0 → edges_at (vertical_of D t) (horizontal_of D t) N x j ≢ 1) → Kept t D x (j + 1) s
  stays h = record {
    most = K.most;
    lower = λ N p. cleaner N p (h N p);
    first = λ p. carried (K.first p) (before_more (K.first p).passed);
  }

  -- nets only cross there
  kept_crossing : Crossing D t b q j → Kept t D x (j + 1) s
  kept_crossing f = stays (λ N p n e. none_crossing _ _ _ _ f.upright f.level N (sym (at_point N) ∙ e))

  module _ (n : ℕ) (e : n ≡ lowest_point D t b q j) where
    -- each below the lowest there has none
    lower_none : (N : ℕ) → N < n → N ≢ 0 → edges_at (vertical_of D t) (horizontal_of D t) N x j ≢ 1
    unfolding lowest_point
    lower_none N p z i = below_lowest _ _ _ _ N z (omega arith) (sym (at_point N) ∙ i)

    -- it is not below the one kept
    pub kept_old : s.net ≤ n → Kept t D x (j + 1) s
    kept_old p = stays (λ N i. lower_none N (omega arith))

    -- it is
    pub kept_new : n < s.net → Kept t D x (j + 1) (record { net = n; column = x + 1; row = j + 1 })
    unfolding lowest_point
    kept_new p = record {
      most = omega (arith, K.most);
      lower = λ N i. cleaner N (omega arith) (lower_none N i);
      first = λ i.
          let (z, o) = lowest_own (net_of D (b + j)) (net_of D (b + j + 1)) (net_of D (q + j)) (net_of D (b + t + 1 + j)) (omega arith) in
          record {
            at_x = x;
            at_j = j;
            column_is = add-one x;
            row_is = add-one j;
            track = l;
            passed = inr (refl, omega arith);
            loose = rw e (is_loose t D _ x j z (at_point _ ∙ o));
            clean = K.lower n p;
          };
    }

-- over crossings it stays
pub kept_crossings : {D : List ℕ} {t x b q j k : ℕ} {s : Loose} → ColumnIs D t x b q → Crossings D t b q j k → Kept t D x j s → Kept t D x k s
kept_crossings {D} {t} {x} {b} {q} {j} {k} {s} C h K =
    let e : j + (k - j) ≡ k = omega (arith, h.from) in
    subst (λ (i : ℕ). Kept t D x i s) e (to (k - j) (omega (arith, h.from)))
  where
    to : (n : ℕ) → j + n ≤ k → Kept t D x (j + n) s
    to zero l = let e : j + 0 ≡ j = omega arith in rw e K
    to (suc n) l =
        let e : j + n + 1 ≡ j + suc n = omega arith in
        subst (λ (i : ℕ). Kept t D x i s) e
        (kept_crossing C (omega (arith, h.to)) s (to n (omega arith)) (h.each (j + n) (omega arith) (omega arith)))

-- ONE COLUMN MORE
pub kept_column : {D : List ℕ} {t x j : ℕ} {s : Loose} → j ≡ t → Kept t D x j s → Kept t D (x + 1) 0 s
kept_column {D} {t} {x} {j} {s} e K = record {
  most = K.most;
  lower = λ N p. record { none = λ x' j' k o. (K.lower N p).none x' j' k (rw e (before_column k o)) };
  first = λ p. carried (K.first p) (column_before (K.first p).passed);
}

-- NOTHING YET
pub kept_none : {D : List ℕ} {t : ℕ} → Kept t D 0 0 (record { net = 257; column = 0; row = 0 })
kept_none = record {
  most = omega arith;
  lower = λ N p. record { none = λ x' j' k o. ⊎_elim (λ (i : x' < 0). absurd (omega arith)) (λ (i : (x' ≡ 0) × (j' < 0)). absurd (omega (arith, i.1))) o };
  first = λ p. absurd (omega arith);
}

-- ALL COLUMNS
module _ {D : List ℕ} {w t : ℕ} (s : Loose) (K : Kept t D w 0 s) where
  -- a net below the one kept has no loose end
  none_below : NoneBelow (loose_net w t D) s.net
  none_below = record { none = λ N p. no_loose w t D N (λ x j l k. (K.lower N p).none x j k (inl l)) }

  module _ (p : s.net < 257) where
    -- the first loose end of that net
    abbrev first : FirstKept t D s.net w 0 s.column s.row
    first = K.first p

    -- lies in the drawing
    inside : first.at_x < w
    inside = ⊎_elim (λ l. l) (λ o. absurd (omega (arith, o.1))) first.passed

    -- and is the one sought
    point : (first.at_x ≡ loose_column w t D s.net) × (first.at_j ≡ loose_track w t D s.net)
    point =
        first_point w t D s.net first.at_x first.at_j inside first.track first.loose (λ x j l k. first.clean.none x j k (inl l))
        (λ j k. first.clean.none first.at_x j (omega (arith, first.track)) (inr (refl, k)))

    -- so its net is the lowest
    lowest : s.net ≡ least 257 (loose_net w t D)
    lowest =
        found_at 257 (loose_net w t D) s.net none_below p (some_loose w t D s.net first.at_x first.at_j inside first.track first.loose)

    -- what is kept is what is sought
    kept_end : LowestEnd w t D s
    kept_end = record { is_net = p; lowest = lowest; column = first.column_is ∙ ap suc point.0; row = first.row_is ∙ ap suc point.1 }

  -- where nothing is kept no net has a loose end
  no_end : 257 ≤ s.net → some 257 (loose_net w t D) ≡ false
  no_end p = none_of 257 (loose_net w t D) (λ N l. none_below.none N (omega arith))

-- after the last column
pub kept_all :
    {D : List ℕ} {w t x : ℕ} {s : Loose} → x ≤ w → w ≤ x → Kept t D x 0 s → (o : Option Loose) → o ≡ then_some (ltb s.net 257) s
    → LowestLoose w t D o
kept_all {D} {w} {t} {x} {s} a b K o i = let e : x ≡ w = omega arith in go (ltb s.net 257) (below_by s.net 257) o i (rw e at K)
  where
    go : (q : Bool) → Below s.net 257 q → (o : Option Loose) → o ≡ then_some q s → Kept t D w 0 s → LowestLoose w t D o
    go true (below l) o i K = rw i (kept_end s K l)
    go false (above l) o i K = rw i (no_end s K l)
