-- The channel in which a net is placed: it is accepted and of two_pin nets, as long as before and as before in the drawn columns, and no less dense. Assumes
-- nothing.
use Prim.Native.Nat.{ℕ, zero, suc, ◌+◌, ◌-◌, ◌≤◌, ◌<◌}
use mathlib.Core.Path.{◌≡◌, sym, ap, ◌∙◌}
use mathlib.Core.Logic.{◌≢◌}
use mathlib.Core.Bool.{Bool, true, false}
use mathlib.Core.List.{List}
use native.Mathlib.Omega.{arith}
use native.Mathlib.Decide.{ℕ_discrete}
use lib.Dec.{eqb, leb}
use lib.ListN.{length, take}
use Rattle.grid.specs.declared.Family.TheVariants.{TwoPin}
use Rattle.grid.specs.Channel.{pick, bit, count, pins, left, right, is_open, open_at, largest, density, family, rows_refused}
use Rattle.grid.proofs.Tests.{eqb_same, eqb_diff, bit_le, Same, same, diff, same_by}
use Rattle.grid.proofs.Counting.{sum_le}
use Rattle.grid.proofs.Rows.{RowsFit, rows_fit, rows_short, two_fit, left-right, open_sides, open_bit}
use Rattle.grid.proofs.Taken.{fit_accepted, two_pin_lem}
use Rattle.placing.specs.Placing.{place_refused, placed_top, placed_bottom}
use Rattle.placing.proofs.Terminals.{Accepted, accepted_by}
use Rattle.placing.proofs.Pins.{of_side, left_of, both_length, both_before, both_times, both_left}

-- DENSITY: rows in which no net has fewer pins on a side of a gap are no less dense

module _ (top bottom top' bottom' : List ℕ) (lefts : (c v : ℕ) → v ≢ 0 → left top bottom c v ≤ left top' bottom' c v) where
  module _ (rights : (c v : ℕ) → v ≢ 0 → right top bottom c v ≤ right top' bottom' c v) where
    open_more : (c : ℕ) → open_at top bottom c ≤ open_at top' bottom' c
    unfolding open_at count
    open_more c = sum_le (λ v. bit (is_open top bottom c v)) (λ v. bit (is_open top' bottom' c v)) 256 one
      where
        one : (v : ℕ) → bit (is_open top bottom c (suc v)) ≤ bit (is_open top' bottom' c (suc v))
        one v = bit_le (is_open top bottom c (suc v)) (bit (is_open top' bottom' c (suc v))) (λ e.
            let (l, r) = open_sides top bottom c (suc v) e in
            omega (
              arith,
              open_bit top' bottom' c (suc v) (omega (arith, lefts c (suc v) (omega arith))) (omega (arith, rights c (suc v) (omega arith))),
            ))

    largest_more : (k : ℕ) → largest top bottom k ≤ largest top' bottom' k
    unfolding largest
    largest_more zero = omega arith
    largest_more (suc k) = omega (arith, largest_more k, open_more (suc k))

    denser : length top' ≡ length top → density top bottom ≤ density top' bottom'
    unfolding density
    denser e = omega (arith, largest_more (length top - 1), ap (λ (n : ℕ). largest top' bottom' (n - 1)) e)

-- A TERMINAL IS OF ONE SIDE

one_side : (side b : ℕ) → side < 2 → of_side 0 side b + of_side 1 side b ≡ b
one_side side b h = go (eqb side 0) (same_by side 0) (eqb side 1) (same_by side 1)
  where
    go : (p : Bool) → Same side 0 p → (q : Bool) → Same side 1 q → pick p b 0 + pick q b 0 ≡ b
    go true (same x) true (same y) = absurd (omega arith)
    go true s false t = omega arith
    go false s true t = omega arith
    go false (diff x) false (diff y) = absurd (omega arith)

-- THE CHANNEL WITH THE NET

module _ (top bottom : List ℕ) (drawn net column1 side1 column2 side2 : ℕ) where
  abbrev pub top' : List ℕ
  top' = placed_top top net column1 side1 column2 side2

  abbrev pub bottom' : List ℕ
  bottom' = placed_bottom bottom net column1 side1 column2 side2

  module _ (a : Accepted top bottom drawn net column1 side1 column2 side2) where
    -- two pins more of the net, none of another
    pub more_pins : (v : ℕ) → v ≢ 0 → pins top' bottom' v ≡ pins top bottom v + (bit (eqb net v) + bit (eqb net v))
    unfolding pins
    more_pins v n =
        omega (
          arith,
          both_times 0 top net column1 side1 column2 side2 drawn a.first.above a.second.above a.distinct v n,
          both_times 1 bottom net column1 side1 column2 side2 drawn a.first.below a.second.below a.distinct v n,
          one_side side1 (bit (eqb net v)) a.first.sided,
          one_side side2 (bit (eqb net v)) a.second.sided,
        )

    -- of them left of a gap those of the columns up to it
    pub more_left : (c v : ℕ) → v ≢ 0 → left top' bottom' c v ≡ left top bottom c v + (left_of net column1 v c + left_of net column2 v c)
    unfolding left
    more_left c v n =
        omega (
          arith,
          both_left 0 top net column1 side1 column2 side2 drawn a.first.above a.second.above a.distinct v n c,
          both_left 1 bottom net column1 side1 column2 side2 drawn a.first.below a.second.below a.distinct v n c,
          one_side side1 (left_of net column1 v c) a.first.sided,
          one_side side2 (left_of net column2 v c) a.second.sided,
        )

    -- and right of it the others
    more_right : (c v : ℕ) → v ≢ 0 → right top bottom c v ≤ right top' bottom' c v
    more_right c v n =
        omega (
          arith,
          left-right top bottom v c,
          left-right top' bottom' v c,
          more_pins v n,
          more_left c v n,
          left_most (leb column1 c) (bit (eqb net v)),
          left_most (leb column2 c) (bit (eqb net v)),
        )
      where
        left_most : (q : Bool) (b : ℕ) → pick q b 0 ≤ b
        left_most true b = omega arith
        left_most false b = omega arith

  module _ (ok : rows_refused top bottom 256 ≡ 0) (two : family top bottom ≡ TwoPin) where
    module _ (zero : place_refused top bottom drawn net column1 side1 column2 side2 ≡ 0) where
      accepted : Accepted top bottom drawn net column1 side1 column2 side2
      accepted = accepted_by top bottom drawn net column1 side1 column2 side2 zero

      fit : RowsFit top bottom
      fit = rows_fit top bottom ok

      -- "both its terminals … lie right of the last drawn column and within the channel": a column is not drawn
      pub placed_within : drawn < length top
      placed_within = go (ℕ_discrete side1 0)
        where
          go : Dec (side1 ≡ 0) → drawn < length top
          go (yes e) = let f = accepted.first.above e in omega (arith, f.right, f.within)
          go (no n) = let f = accepted.first.below (omega (arith, accepted.first.sided)) in omega (arith, f.right, f.within, fit.same)

      -- the rows are as long as before
      pub placed_length_top : length top' ≡ length top
      placed_length_top = both_length 0 top net column1 side1 column2 side2

      pub placed_length_bottom : length bottom' ≡ length bottom
      placed_length_bottom = both_length 1 bottom net column1 side1 column2 side2

      -- and as before in the drawn columns
      pub placed_before_top : take drawn top' ≡ take drawn top
      placed_before_top =
          both_before 0 top net column1 side1 column2 side2 drawn accepted.first.above accepted.second.above accepted.distinct

      pub placed_before_bottom : take drawn bottom' ≡ take drawn bottom
      placed_before_bottom =
          both_before 1 bottom net column1 side1 column2 side2 drawn accepted.first.below accepted.second.below accepted.distinct

      -- the net has two pins
      pub placed_pins : pins top' bottom' net ≡ 2
      placed_pins = omega (arith, more_pins accepted net (omega (arith, accepted.some)), accepted.unused, eqb_same net)

      -- and every other net those that it had
      pub placed_others : (v : ℕ) → v ≢ 0 → v ≢ net → pins top' bottom' v ≡ pins top bottom v
      placed_others v n d = omega (arith, more_pins accepted v n, eqb_diff net v (λ e. d (sym e)))

      -- so each net fits, and has at most two
      placed_fit : RowsFit top' bottom'
      placed_fit = record {
        same = placed_length_top ∙ fit.same ∙ sym placed_length_bottom;
        small = λ v p. placed_others v (omega arith) (omega (arith, accepted.most)) ∙ fit.small v p;
        lone = λ v p. go v p (ℕ_discrete v net);
      }
        where
          go : (v : ℕ) → 1 ≤ v → Dec (v ≡ net) → pins top' bottom' v ≢ 1
          go v p (yes e) = rw e (λ y. let u : ⊥ = omega (arith, placed_pins) in u)
          go v p (no d) = λ y. fit.lone v p (sym (placed_others v (omega arith) d) ∙ y)

      placed_two : (v : ℕ) → 1 ≤ v → pins top' bottom' v ≤ 2
      placed_two v p = go (ℕ_discrete v net)
        where
          go : Dec (v ≡ net) → pins top' bottom' v ≤ 2
          go (yes e) = rw e (omega (arith, placed_pins))
          go (no d) = omega (arith, placed_others v (omega arith) d, two_fit top bottom fit two v p)

      -- the channel is accepted
      pub placed_accepted : rows_refused top' bottom' 256 ≡ 0
      placed_accepted = fit_accepted top' bottom' placed_fit (omega (arith, placed_length_top, rows_short top bottom 256 ok))

      -- and one of two_pin nets
      pub placed_pairs : family top' bottom' ≡ TwoPin
      placed_pairs = two_pin_lem top' bottom' placed_two

      -- a net does not make it less dense
      pub placed_denser : density top bottom ≤ density top' bottom'
      placed_denser = denser top bottom top' bottom' (λ c v n. omega (arith, more_left accepted c v n)) (more_right accepted) placed_length_top
