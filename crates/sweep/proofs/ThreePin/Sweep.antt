-- The sweep of three-pin channels keeps its invariant in every gap, and so the moves are good.
use Prim.Native.Nat.{ℕ, zero, suc, ◌*◌, ◌/◌, ◌≤◌, ◌<◌}
use mathlib.Core.Path.{◌≡◌, refl, sym, ◌∙◌}
use mathlib.Core.Logic.{inl, inr, ◌≢◌}
use mathlib.Core.Bool.{true}
use mathlib.Core.List.{List}
use native.Mathlib.Omega.{arith}
use native.Mathlib.Decide.{ℕ_discrete}
use lib.Dec.{eqb}
use lib.ListN.{length, get_or, replicate, length-replicate}
use Rattle.grid.specs.declared.Family.TheVariants.{ThreePin}
use Rattle.grid.specs.Channel.{times, density, family}
use Rattle.grid.specs.Nets.{last_column}
use Rattle.grid.proofs.Tests.{ne_eqb, eqb-false}
use Rattle.grid.proofs.Counting.{zeros, sum_zero}
use Rattle.grid.proofs.Rows.{RowsFit, before}
use Rattle.sweep.specs.declared.Pin.{Pin}
use Rattle.sweep.specs.declared.Move.{Move}
use Rattle.sweep.specs.Pairs.{mate, no_mates}
use Rattle.sweep.specs.Tracks.{after}
use Rattle.sweep.specs.ThreePin.{still}
use Rattle.sweep.specs.Drawing.{free_of, pin_at, joint_of, extended_net, latest_double, other_double, double_of, end_of, mates_after, move_of, move}
use Rattle.sweep.specs.Drawing.{empty_at, empty_column, state_by, state, gap}
use Rattle.sweep.proofs.Gaps.Held.{held_start}
use Rattle.sweep.proofs.Gaps.Pins.{lowest-free, pinned}
use Rattle.sweep.proofs.Gaps.Joints.{extended_off, extended_two, extended_joins, extended-over, extended_calm}
use Rattle.sweep.proofs.Actions.Good.{Good}
use Rattle.sweep.proofs.Rules.Chosen.{by}
use Rattle.sweep.proofs.Rules.Empty.{no_pins_lem}
use Rattle.sweep.proofs.ThreePin.Weights.{weight, Weigh, gone, extended, unborn, single, lone, weigh}
use Rattle.sweep.proofs.ThreePin.Kept.{Kept, Forms, small}
use Rattle.sweep.proofs.ThreePin.Mates.{kept_next}
use Rattle.sweep.proofs.ThreePin.Works.{ThreeColumn, Works}
use Rattle.sweep.proofs.ThreePin.Still.{straight_works, joining_works}
use Rattle.sweep.proofs.ThreePin.Doubles.{doubles}
use Rattle.sweep.proofs.ThreePin.Chosen.{chosen_works}

-- the last column of a net that is there
end_of_lem : (top bottom : List ℕ) (v u : ℕ) → v ≡ u → u ≢ 0 → last_column top bottom u ≡ end_of top bottom v
unfolding end_of
end_of_lem top bottom v u i n = rw (i, ne_eqb u 0 n) refl

-- IN GAP 0
module _ (t : ℕ) (top bottom : List ℕ) where
  -- no net has a mate
  no_mate : (v : ℕ) → mate v no_mates ≡ 0
  unfolding no_mates
  no_mate v = zeros 257 v

  -- no net weighs anything
  weightless : (v : ℕ) → v ≢ 0 → weight top bottom 0 (replicate t 0) no_mates v ≡ 0
  weightless v n = go (weigh top bottom 0 (replicate t 0) no_mates v)
    where
      empty : times v (replicate t 0) ≡ 0
      empty = omega (arith, (held_start t top bottom).few v n, before top bottom v)

      go : {w : ℕ} → Weigh top bottom 0 (replicate t 0) no_mates v w → w ≡ 0
      go (gone e r i) = e
      go (extended e r i) = absurd (omega (arith, empty))
      go (unborn e r i (inl o)) = o
      go (unborn e r i (inr o)) = absurd (omega (arith, empty))
      go (single e r i o) = absurd (omega (arith, before top bottom v))
      go (lone e r i o z) = absurd (omega (arith, before top bottom v))

  -- the invariant holds
  kept_start : Kept t top bottom 0 (replicate t 0) no_mates
  unfolding no_mates
  kept_start = record {
    held = held_start t top bottom;
    size = length-replicate {A = ℕ} 257 0;
    none = no_mate 0;
    mates = λ u w n o e. absurd (o (sym e ∙ no_mate u));
    live = λ v n s. absurd (s (no_mate v));
    few = λ v n s. absurd (s (no_mate v));
    order = λ v n s. absurd (s (no_mate v));
    bound = omega (arith, sum_zero (weight top bottom 0 (replicate t 0) no_mates) 256 (λ v p. weightless (suc v) (omega arith)));
  }

module _ (t : ℕ) (top bottom : List ℕ) (fit : RowsFit top bottom) (e : family top bottom ≡ ThreePin) (enough : 3 * density top bottom / 2 ≤ t) where
  module _ (c : ℕ) (inside : c < length top) (tr m : List ℕ) (k : Kept t top bottom c tr m) where
    -- its pins
    abbrev A : Pin
    A = pin_at top bottom c tr (get_or top c 0)

    abbrev B : Pin
    B = pin_at top bottom c tr (get_or bottom c 0)

    -- the column
    column : ThreeColumn t top bottom c tr m A B (free_of tr)
    column = record { fit = fit; three = e; enough = enough; inside = inside; kept = k; pin = pinned top bottom c tr k.held; free = lowest-free tr }

    -- WHAT THE RULES CHOOSE WORKS
    rules_work : Works column (move_of t top bottom ThreePin c tr m)
    unfolding move_of
    rules_work =
        chosen_works column (double_of top bottom tr (latest_double top bottom tr m)) (double_of top bottom tr (other_double top bottom tr m)) (doubles column)
        (joint_of top bottom c tr (extended_net top bottom c tr)) (extended_joins top bottom c tr k.held) (extended-over top bottom c tr k.held)
        (extended_calm top bottom c tr k.held) (end_of top bottom (get_or top c 0)) (end_of top bottom (get_or bottom c 0))
        (end_of_lem top bottom (get_or top c 0) A.net column.pin.above.net) (end_of_lem top bottom (get_or bottom c 0) B.net column.pin.below.net)

    -- and what a column without pins does
    empty_works : empty_at top bottom c ≡ true → Works column (still (empty_column top bottom c tr))
    unfolding empty_column
    empty_works i =
        let (p, q) = no_pins_lem top bottom c i in
        let a = sym column.pin.above.net ∙ p in
        let b = sym column.pin.below.net ∙ q in
        by (λ x. Works column (still x)) (eqb (extended_net top bottom c tr) 0)
        (λ z. straight_works column a b)
        (λ z. let n = eqb-false (extended_net top bottom c tr) 0 z in
        joining_works column a b (extended_net top bottom c tr) n (extended_two top bottom c tr k.held n) (extended_off top bottom c tr n))

    -- THE MOVE OF A COLUMN WORKS
    move_works : Works column (move t top bottom c tr m)
    unfolding move
    move_works = by (Works column) (empty_at top bottom c) empty_works (λ i. rw e rules_work)

    -- so the invariant holds in the next gap
    next_kept : let x = move t top bottom c tr m in Kept t top bottom (suc c) (after x.action tr) (mates_after top bottom c x m)
    next_kept =
        let w = move_works.good_move in
        kept_next top bottom fit e c tr m k (move t top bottom c tr m) w.forms w.good move_works.light

  -- THE INVARIANT
  pub kept : (c : ℕ) → c ≤ length top → Kept t top bottom c (gap t top bottom c) (state t top bottom c).mates
  unfolding state_by
  kept zero p = kept_start t top bottom
  kept (suc c) p = next_kept c p (gap t top bottom c) (state t top bottom c).mates (kept c (omega arith))

  -- SO THE ACTION THAT THE RULES CHOOSE IS GOOD IN EVERY COLUMN
  pub three_move_good : (c : ℕ) → c < length top
      → Good top bottom c t (gap t top bottom c) (get_or top c 0) (get_or bottom c 0)
      (move_of t top bottom ThreePin c (gap t top bottom c) (state t top bottom c).mates).action
  three_move_good c p = (rules_work c p (gap t top bottom c) (state t top bottom c).mates (kept c (omega arith))).good_move.good

  -- and the nets that it pairs are numbered up to 256
  pub three_pair_small : (c : ℕ) → c < length top
      → let x = move_of t top bottom ThreePin c (gap t top bottom c) (state t top bottom c).mates in (x.double ≤ 256) × (x.single ≤ 256)
  three_pair_small c p = go (ℕ_discrete x.double 0)
    where
      x : Move
      x = move_of t top bottom ThreePin c (gap t top bottom c) (state t top bottom c).mates

      f : Forms top bottom c (gap t top bottom c) (state t top bottom c).mates x
      f = (rules_work c p (gap t top bottom c) (state t top bottom c).mates (kept c (omega arith))).good_move.forms

      go : Dec (x.double ≡ 0) → (x.double ≤ 256) × (x.single ≤ 256)
      go (yes z) = (omega arith, omega (arith, f.none z))
      go (no n) = let g = f.pair n in (small top bottom fit x.double (suc c) (omega (arith, g.pins_d)), small top bottom fit x.single (suc c) (omega (arith, g.pins_s)))
