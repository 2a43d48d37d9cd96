-- A column without pins: the lowest-numbered extended net is joined there, and all other strands run straight.
use Prim.Native.Nat.{ℕ, suc}
use mathlib.Core.Path.{◌≡◌, refl, sym, ◌∙◌, subst₂}
use mathlib.Core.Logic.{inl, ◌≢◌}
use mathlib.Core.Bool.{true, false}
use mathlib.Core.List.{List}
use native.Mathlib.Omega.{arith}
use native.Mathlib.Decide.{ℕ_discrete}
use lib.Dec.{eqb, ltb}
use lib.ListN.{get_or}
use Rattle.grid.specs.Channel.{pick}
use Rattle.grid.proofs.Tests.{eqb-true, eqb-false, eq-eqb, ne_eqb, eqb_diff, and_true}
use Rattle.grid.proofs.Rows.{right_suc}
use Rattle.sweep.specs.Tracks.{many, lowest_net, clear, give, after}
use Rattle.sweep.specs.Rules.{straight}
use Rattle.sweep.specs.Working.{join_alone}
use Rattle.sweep.specs.Drawing.{later, wide_at, extended_net, net_to_join, joint_of, joining, empty_at, empty_column}
use Rattle.sweep.proofs.Tracks.Changed.{clear_idle}
use Rattle.sweep.proofs.Tracks.Nets.{a_net}
use Rattle.sweep.proofs.Gaps.Held.{Held}
use Rattle.sweep.proofs.Gaps.Pins.{later_by, true_of, false_of, of_true}
use Rattle.sweep.proofs.Gaps.Joints.{extended_off, extended_two}
use Rattle.sweep.proofs.Actions.Good.{Good}
use Rattle.sweep.proofs.Actions.Free.{straight_good}
use Rattle.sweep.proofs.Actions.Joins.{after-joining, joining_good}
use Rattle.sweep.proofs.Rules.Chosen.{by}

-- its pins
pub no_pins_lem : (top bottom : List ℕ) (c : ℕ) → empty_at top bottom c ≡ true → (get_or top c 0 ≡ 0) × (get_or bottom c 0 ≡ 0)
unfolding empty_at
no_pins_lem top bottom c e =
    let (a, b) = and_true (eqb (get_or top c 0) 0) (eqb (get_or bottom c 0) 0) e in
    (eqb-true (get_or top c 0) 0 a, eqb-true (get_or bottom c 0) 0 b)

-- and a column that has none
pub empty_at_lem : (top bottom : List ℕ) (c : ℕ) → get_or top c 0 ≡ 0 → get_or bottom c 0 ≡ 0 → empty_at top bottom c ≡ true
unfolding empty_at
empty_at_lem top bottom c a b = rw (a, b)

-- AFTER IT the strands of that net have ended, and all others are as they were
pub empty_after : (top bottom : List ℕ) (c : ℕ) (tr : List ℕ) → after (empty_column top bottom c tr) tr ≡ clear (extended_net top bottom c tr) tr
unfolding empty_column after give
empty_after top bottom c tr =
    by (λ x. after x tr ≡ clear (extended_net top bottom c tr) tr) (eqb (extended_net top bottom c tr) 0)
    (λ e. rw (eqb-true (extended_net top bottom c tr) 0 e) (clear_idle 0 (clear 0 tr) (inl refl)))
    (λ e. after-joining tr (extended_net top bottom c tr))

-- WHAT IT DOES IS GOOD
module _ {t : ℕ} (top bottom : List ℕ) (c : ℕ) (tr : List ℕ) (h : Held t top bottom c tr) where
  pub empty_good : empty_at top bottom c ≡ true → Good top bottom c t tr (get_or top c 0) (get_or bottom c 0) (empty_column top bottom c tr)
  unfolding empty_column
  empty_good e =
      let (a, b) = no_pins_lem top bottom c e in
      subst₂ (λ (p q : ℕ). Good top bottom c t tr p q (empty_column top bottom c tr)) (sym a) (sym b)
      (by (Good top bottom c t tr 0 0) (eqb (extended_net top bottom c tr) 0)
      (λ i. straight_good top bottom c t tr h.size)
      (λ i. let n = eqb-false (extended_net top bottom c tr) 0 i in
      joining_good top bottom c t tr h.size (extended_net top bottom c tr) n (extended_two top bottom c tr h n) (extended_off top bottom c tr n)))

-- BY THE NET OF RULE 2
module _ (top bottom : List ℕ) (c : ℕ) (tr : List ℕ) where
  -- a net without later pins is joined
  alone_off : (v : ℕ) → (v ≢ 0 → later top bottom (suc c) v ≡ false) → join_alone (joint_of top bottom c tr v) ≡ pick (eqb v 0) straight (joining tr v)
  unfolding join_alone joint_of joining
  alone_off v off = go (ℕ_discrete v 0)
    where
      go : Dec (v ≡ 0) → join_alone (joint_of top bottom c tr v) ≡ pick (eqb v 0) straight (joining tr v)
      go (yes e) = rw (eq-eqb v 0 e)
      go (no n) = simp (ne_eqb v 0 n, off n)

  -- one that has them is not
  alone_on : (v : ℕ) → v ≢ 0 → later top bottom (suc c) v ≡ true → join_alone (joint_of top bottom c tr v) ≡ straight
  unfolding join_alone joint_of
  alone_on v n on = simp (ne_eqb v 0 n, on)

  -- an extended net has no later pins
  pub later_off : extended_net top bottom c tr ≢ 0 → later top bottom (suc c) (extended_net top bottom c tr) ≡ false
  later_off n = false_of (later_by top bottom (suc c) (extended_net top bottom c tr) n) (omega (arith, extended_off top bottom c tr n))

  -- where rule 2 looks for an extended net alone
  pub extended-alone : join_alone (joint_of top bottom c tr (extended_net top bottom c tr)) ≡ empty_column top bottom c tr
  unfolding empty_column
  extended-alone = alone_off (extended_net top bottom c tr) later_off

  -- which there may not be
  none_joined : extended_net top bottom c tr ≡ 0 → empty_column top bottom c tr ≡ straight
  unfolding empty_column
  none_joined z = rw (eq-eqb (extended_net top bottom c tr) 0 z)

  -- an open net with three or more strands still has them after a column without pins
  later_on : empty_at top bottom c ≡ true → lowest_net (wide_at top bottom c tr) tr ≢ 0 → later top bottom (suc c) (lowest_net (wide_at top bottom c tr) tr) ≡ true
  unfolding wide_at
  later_on e n =
      let w = lowest_net (wide_at top bottom c tr) tr in
      let (a, b) = no_pins_lem top bottom c e in
      let (i, p) = a_net (wide_at top bottom c tr) tr w n refl in
      let r = of_true (later_by top bottom c w n) (and_true (later top bottom c w) (ltb 2 (many w tr)) i).0 in
      true_of (later_by top bottom (suc c) w n)
      (omega (arith, right_suc top bottom w c n, eqb_diff (get_or top c 0) w (λ z. n (sym z ∙ a)), eqb_diff (get_or bottom c 0) w (λ z. n (sym z ∙ b))))

  -- and where rule 2 may join such a net too
  pub to_join_alone : empty_at top bottom c ≡ true → join_alone (joint_of top bottom c tr (net_to_join top bottom c tr)) ≡ empty_column top bottom c tr
  unfolding net_to_join
  to_join_alone e = go (ℕ_discrete (extended_net top bottom c tr) 0) (ℕ_discrete (lowest_net (wide_at top bottom c tr) tr) 0)
    where
      go : Dec (extended_net top bottom c tr ≡ 0) → Dec (lowest_net (wide_at top bottom c tr) tr ≡ 0)
          → join_alone (joint_of top bottom c tr (net_to_join top bottom c tr)) ≡ empty_column top bottom c tr
      go (no n) d = rw (ne_eqb (extended_net top bottom c tr) 0 n) extended-alone
      go (yes z) (yes w) = rw (eq-eqb (extended_net top bottom c tr) 0 z, w, sym z) extended-alone
      go (yes z) (no w) = rw (eq-eqb (extended_net top bottom c tr) 0 z) (alone_on (lowest_net (wide_at top bottom c tr) tr) w (later_on e w) ∙ sym (none_joined z))
