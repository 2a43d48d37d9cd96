-- The net of rule 2: what it is where there is one, and what holds where there is none.
use Prim.Native.Nat.{ℕ, suc, ◌≤◌, ◌<◌}
use mathlib.Core.Path.{◌≡◌, refl, sym, ◌∙◌, subst}
use mathlib.Core.Logic.{◌⊎◌, inl, inr, ◌≢◌, ⊎_elim}
use mathlib.Core.Bool.{Bool, true, false, not}
use mathlib.Core.List.{List}
use native.Mathlib.Omega.{arith}
use native.Mathlib.Decide.{ℕ_discrete}
use lib.Dec.{eqb, ltb}
use lib.ListN.{get_or}
use Rattle.grid.specs.Channel.{times, right}
use Rattle.grid.proofs.Tests.{Below, eq-eqb, ne_eqb, ltb-true, ltb-false, and_true, not-true}
use Rattle.grid.proofs.Counting.{at_below}
use Rattle.grid.proofs.Rows.{right_suc}
use Rattle.sweep.specs.declared.Joint.{Joint}
use Rattle.sweep.specs.Tracks.{lowest, second, highest, many, lowest_net}
use Rattle.sweep.specs.Drawing.{no_joint, later, joint_of, extended_at, wide_at, extended_net, net_to_join}
use Rattle.sweep.proofs.Tracks.Strands.{Strand, lowest_is, highest_is, second_is_lem, lowest<second, lowest<highest, second<highest, many-times}
use Rattle.sweep.proofs.Tracks.Strands.{between}
use Rattle.sweep.proofs.Tracks.Nets.{no_net, a_net}
use Rattle.sweep.proofs.Gaps.Held.{Held}
use Rattle.sweep.proofs.Gaps.Pins.{Off, later_by, true_of, false_of, of_true, of_false}

-- a net that is joined: its strands, and its second where it has later pins
pub record Bound (tr : List ℕ) (N : Joint) : Type 0 where
  pub some : N.net ≢ 0
  pub low_is : Strand N.net tr N.low
  pub high_is : Strand N.net tr N.high
  pub apart : N.low < N.high
  pub span : (j : ℕ) → get_or tr j 0 ≡ N.net → (N.low ≤ suc j) × (suc j ≤ N.high)
  pub second_is : N.later ≡ true → Strand N.net tr N.second × (N.low < N.second) × (N.second < N.high)

-- the net of rule 2 in column c + 1, where there is one
pub record Joins (top bottom : List ℕ) (c : ℕ) (tr : List ℕ) (N : Joint) : Type 0 where
  pub bound : N.net ≢ 0 → Bound tr N
  pub told : N.net ≢ 0 → Below 0 (right top bottom (suc c) N.net) N.later

-- AN EXTENDED NET, where there is one
module _ (top bottom : List ℕ) (c : ℕ) (tr : List ℕ) where
  -- its pins all lie left, and it has strands
  pub extended-right : extended_net top bottom c tr ≢ 0 → (right top bottom c (extended_net top bottom c tr) ≡ 0) × (0 < times (extended_net top bottom c tr) tr)
  unfolding extended_net extended_at
  extended-right n =
      let v = lowest_net (extended_at top bottom c) tr in
      let (e, p) = a_net (extended_at top bottom c) tr v n refl in
      (omega (arith, of_false (later_by top bottom c v n) (not-true (later top bottom c v) (and_true (not (eqb v 0)) (not (later top bottom c v)) e).1)), p)

  -- so it has no pins after the column either
  pub extended_off : extended_net top bottom c tr ≢ 0 → Off top bottom c (extended_net top bottom c tr)
  extended_off n = omega (arith, extended-right n, right_suc top bottom (extended_net top bottom c tr) c n)

module _ {t : ℕ} (top bottom : List ℕ) (c : ℕ) (tr : List ℕ) (h : Held t top bottom c tr) where
  -- net v as that net
  joint_some : (v : ℕ) → v ≢ 0 → joint_of top bottom c tr v ≡ record {
    net = v;
    low = lowest v tr;
    second = second v tr;
    high = highest v tr;
    later = later top bottom (suc c) v;
  }
  unfolding joint_of
  joint_some v n = rw (ne_eqb v 0 n)

  joint_none : (v : ℕ) → v ≡ 0 → joint_of top bottom c tr v ≡ no_joint
  unfolding joint_of
  joint_none v e = rw (eq-eqb v 0 e)

  -- is that net
  joint_net : (v : ℕ) → v ≡ (joint_of top bottom c tr v).net
  joint_net v = go (ℕ_discrete v 0)
    where
      go : Dec (v ≡ 0) → v ≡ (joint_of top bottom c tr v).net
      go (yes e) = rw (joint_none v e) e
      go (no n) = rw (joint_some v n)

  -- two strands or more, and three if it has later pins
  joins : (v : ℕ) → (v ≢ 0 → 2 ≤ times v tr) → (v ≢ 0 → later top bottom (suc c) v ≡ true → 3 ≤ times v tr) → Joins top bottom c tr (joint_of top bottom c tr v)
  joins v p q = go (ℕ_discrete v 0)
    where
      go : Dec (v ≡ 0) → Joins top bottom c tr (joint_of top bottom c tr v)
      go (yes e) = rw (joint_none v e) (record { bound = λ n. absurd (n refl); told = λ n. absurd (n refl) })
      go (no n) = rw (joint_some v n) (record {
        bound = λ m. record {
          some = n;
          low_is = lowest_is v tr (omega (arith, p n));
          high_is = highest_is v tr (omega (arith, p n));
          apart = lowest<highest v tr (p n);
          span = λ j e. between v tr j (at_below tr j v n e) e;
          second_is = λ e. (second_is_lem v tr (p n), lowest<second v tr (p n), second<highest v tr (q n e));
        };
        told = λ m. later_by top bottom (suc c) v n;
      })

  -- AN EXTENDED NET has two strands or more
  pub extended_two : extended_net top bottom c tr ≢ 0 → 2 ≤ times (extended_net top bottom c tr) tr
  extended_two n = let (r, p) = extended-right top bottom c tr n in ⊎_elim (λ z. omega arith) (λ z. z) (h.done (extended_net top bottom c tr) n r)

  -- the net of rule 2 of two-pin channels
  pub extended_joins : Joins top bottom c tr (joint_of top bottom c tr (extended_net top bottom c tr))
  extended_joins = joins (extended_net top bottom c tr) extended_two
      (λ n e. absurd (omega (arith, of_true (later_by top bottom (suc c) (extended_net top bottom c tr) n) e, extended_off top bottom c tr n)))

  -- has no pins to come
  pub extended-over : (joint_of top bottom c tr (extended_net top bottom c tr)).net ≢ 0
      → right top bottom c (joint_of top bottom c tr (extended_net top bottom c tr)).net ≡ 0
  extended-over n = let i = joint_net (extended_net top bottom c tr) in subst (λ (v : ℕ). right top bottom c v ≡ 0) i (extended-right top bottom c tr (λ z. n (sym i ∙ z))).0

  -- where there is none, every net whose pins all lie left is done
  calm : extended_net top bottom c tr ≡ 0 → (v : ℕ) → v ≢ 0 → right top bottom c v ≡ 0 → times v tr ≡ 0
  unfolding extended_net extended_at
  calm z v n r = no_net (extended_at top bottom c) tr z v n (rw (ne_eqb v 0 n, false_of (later_by top bottom c v n) (omega arith)))

  -- the same, where rule 2 has no net
  pub extended_calm : (joint_of top bottom c tr (extended_net top bottom c tr)).net ≡ 0 → (v : ℕ) → v ≢ 0 → right top bottom c v ≡ 0 → times v tr ≡ 0
  extended_calm e = calm (joint_net (extended_net top bottom c tr) ∙ e)

  -- OR AN OPEN NET WITH THREE OR MORE STRANDS

  -- the net found has three strands or more
  wide_three : lowest_net (wide_at top bottom c tr) tr ≢ 0 → 3 ≤ times (lowest_net (wide_at top bottom c tr) tr) tr
  unfolding wide_at
  wide_three n =
      let v = lowest_net (wide_at top bottom c tr) tr in
      let (e, p) = a_net (wide_at top bottom c tr) tr v n refl in
      omega (arith, ltb-true 2 (many v tr) (and_true (later top bottom c v) (ltb 2 (many v tr)) e).1, many-times v tr)

  -- the net of rule 2 of the other channels is extended, or such a net
  to_join_is : ((extended_net top bottom c tr ≢ 0) × (net_to_join top bottom c tr ≡ extended_net top bottom c tr))
      ⊎ ((extended_net top bottom c tr ≡ 0) × (net_to_join top bottom c tr ≡ lowest_net (wide_at top bottom c tr) tr))
  unfolding net_to_join
  to_join_is = go (ℕ_discrete (extended_net top bottom c tr) 0)
    where
      go : Dec (extended_net top bottom c tr ≡ 0)
          → ((extended_net top bottom c tr ≢ 0) × (net_to_join top bottom c tr ≡ extended_net top bottom c tr))
          ⊎ ((extended_net top bottom c tr ≡ 0) × (net_to_join top bottom c tr ≡ lowest_net (wide_at top bottom c tr) tr))
      go (yes e) = inr (e, rw (eq-eqb (extended_net top bottom c tr) 0 e))
      go (no d) = inl (d, rw (ne_eqb (extended_net top bottom c tr) 0 d))

  -- the net of rule 2 of the other channels
  pub to_join_joins : Joins top bottom c tr (joint_of top bottom c tr (net_to_join top bottom c tr))
  to_join_joins =
      ⊎_elim (λ d. rw d.1 extended_joins)
      (λ d. rw d.1 (joins (lowest_net (wide_at top bottom c tr) tr) (λ n. omega (arith, wide_three n)) (λ n e. wide_three n)))
      to_join_is

  -- where there is none, no net is extended, and no open net has three strands
  none_to_join : (joint_of top bottom c tr (net_to_join top bottom c tr)).net ≡ 0 → (extended_net top bottom c tr ≡ 0) × (lowest_net (wide_at top bottom c tr) tr ≡ 0)
  none_to_join e =
      let z = joint_net (net_to_join top bottom c tr) ∙ e in
      ⊎_elim (λ d. absurd (d.0 (sym d.1 ∙ z))) (λ d. (d.0, sym d.1 ∙ z)) to_join_is

  -- none is extended
  pub to_join_calm : (joint_of top bottom c tr (net_to_join top bottom c tr)).net ≡ 0 → (v : ℕ) → v ≢ 0 → right top bottom c v ≡ 0 → times v tr ≡ 0
  to_join_calm e = calm (none_to_join e).0

  -- and an open net has two strands at most
  pub to_join_few : (joint_of top bottom c tr (net_to_join top bottom c tr)).net ≡ 0 → (v : ℕ) → v ≢ 0 → 0 < right top bottom c v → times v tr ≤ 2
  unfolding wide_at
  to_join_few e v n r = go (ltb 2 (many v tr)) refl
    where
      go : (q : Bool) → ltb 2 (many v tr) ≡ q → times v tr ≤ 2
      go true f = omega (arith, no_net (wide_at top bottom c tr) tr (none_to_join e).1 v n (rw (f, true_of (later_by top bottom c v n) r)))
      go false f = omega (arith, ltb-false 2 (many v tr) f, many-times v tr)
