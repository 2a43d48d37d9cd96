-- Whatever move the rules of three-pin channels choose works.
use Prim.Native.Nat.{ℕ, ◌≤◌}
use mathlib.Core.Path.{◌≡◌, refl, sym}
use mathlib.Core.Logic.{◌≢◌}
use mathlib.Core.Bool.{Bool, true, false, ◌&&◌, ◌||◌}
use mathlib.Core.List.{List}
use native.Mathlib.Omega.{arith}
use lib.Dec.{eqb, ltb}
use Rattle.grid.specs.Channel.{pick, times, right}
use Rattle.grid.specs.Nets.{last_column}
use Rattle.grid.proofs.Tests.{Same, same, diff, same_by, Below, below, above, below_by, eqb-true, eqb-false, ltb-true, ltb-false, and_true, not_both}
use Rattle.sweep.specs.declared.Move.{Move}
use Rattle.sweep.specs.declared.Pin.{Pin}
use Rattle.sweep.specs.declared.Free.{Free}
use Rattle.sweep.specs.declared.Joint.{Joint}
use Rattle.sweep.specs.declared.Double.{Double}
use Rattle.sweep.specs.Rules.{Kind, none, starts, continues, ends, kind_of}
use Rattle.sweep.specs.ThreePin
use Rattle.sweep.specs.ThreePin.{join_else, ends_first, both_go_on, top_starts, bottom_starts, both_start, beside, top_goes_on, bottom_goes_on, choose_three}
use Rattle.sweep.proofs.Gaps.Pins.{Met, Stays, both_on}
use Rattle.sweep.proofs.Gaps.Joints.{Joins}
use Rattle.sweep.proofs.Rules.Room.{not_none}
use Rattle.sweep.proofs.Rules.Chosen.{by}
use Rattle.sweep.proofs.ThreePin.Works.{ThreeColumn, Works}
use Rattle.sweep.proofs.ThreePin.Still.{straight_works, full_works, top_ends_works, bottom_ends_works, either_ends_works, join_works}
use Rattle.sweep.proofs.ThreePin.Still.{top_direct_works, bottom_direct_works, both_direct_works}
use Rattle.sweep.proofs.ThreePin.Calm.{Calm, Lone}
use Rattle.sweep.proofs.ThreePin.Continues.{top_single_works, top_only_works, top_long_works, bottom_single_works, bottom_only_works, bottom_long_works}
use Rattle.sweep.proofs.ThreePin.Starts.{top_free_works, bottom_free_works, both_free_works}
use Rattle.sweep.proofs.ThreePin.Reduces.{top_short_works, bottom_short_works, top_reduces_works, bottom_reduces_works, both_reduce_works}
use Rattle.sweep.proofs.ThreePin.Doubles.{Stands, Doubles}

-- which of two nets ends first, by their last columns
first_ends : (a b ea eb : ℕ) → (ends_first a b ea eb ≡ true → ea ≤ eb) × (ends_first a b ea eb ≡ false → eb ≤ ea)
first_ends a b ea eb = go (ltb ea eb) (below_by ea eb) (eqb ea eb) (same_by ea eb) (ltb a b)
  where
    go : (i : Bool) → Below ea eb i → (j : Bool) → Same ea eb j → (h : Bool) → ((i || (j && h)) ≡ true → ea ≤ eb) × ((i || (j && h)) ≡ false → eb ≤ ea)
    go true (below p) j s h = (λ e. omega arith, λ e. absurd (not_both refl e))
    go false (above p) true (same s) h = (λ e. omega arith, λ e. omega arith)
    go false (above p) false s h = (λ e. absurd (not_both e refl), λ e. p)

module _ {t : ℕ} {top bottom : List ℕ} {c : ℕ} {tr m : List ℕ} {A B : Pin} {f : Free} (k : ThreeColumn t top bottom c tr m A B f) (D M : Double)
    (s : Doubles k D M) where
  -- THE LAST RULE: no pin ends its net, and no net is extended
  module _ (q : Calm k) where
    -- M, beside D
    other : M.net ≢ 0 → Lone k M.net × (D.net ≢ M.net) × (last_column top bottom M.net ≤ last_column top bottom D.net)
    other n = let (o, d, e) = s.other n in (o.lone, d, e)

    -- starting pins
    top_starts_works : Met top bottom c tr A starts → Met top bottom c tr B none → Works k (top_starts A B f D M)
    unfolding top_starts
    top_starts_works a b =
        by (Works k) (eqb D.net 0) (λ e. top_free_works k q (s.none q (eqb-true D.net 0 e)) a b)
        (λ e. let p = s.first (eqb-false D.net 0 e) in top_reduces_works k q D p.doubled p.lone M other b)

    bottom_starts_works : Met top bottom c tr A none → Met top bottom c tr B starts → Works k (bottom_starts A B f D M)
    unfolding bottom_starts
    bottom_starts_works a b =
        by (Works k) (eqb D.net 0) (λ e. bottom_free_works k q (s.none q (eqb-true D.net 0 e)) a b)
        (λ e. let p = s.first (eqb-false D.net 0 e) in bottom_reduces_works k q D p.doubled p.lone M other a)

    both_start_works : Met top bottom c tr A starts → Met top bottom c tr B starts → Works k (both_start A B f D M)
    unfolding both_start
    both_start_works a b =
        by (Works k) (eqb D.net 0) (λ e. both_free_works k q (s.none q (eqb-true D.net 0 e)) a b)
        (λ e. let p = s.first (eqb-false D.net 0 e) in both_reduce_works k q D p.doubled p.lone M other a b (s.only q))

    -- the unpaired double net that a continuing pin is paired with
    beside_stands : ((beside D M).net ≢ 0 → Stands k (beside D M)) × ((beside D M).net ≡ 0 → D.net ≡ 0)
    beside_stands = go (eqb M.net 0) (same_by M.net 0)
      where
        go : (i : Bool) → Same M.net 0 i → ((pick i D M).net ≢ 0 → Stands k (pick i D M)) × ((pick i D M).net ≡ 0 → D.net ≡ 0)
        go true e = (s.first, λ z. z)
        go false (diff n) = ((λ o. (s.other n).0), λ z. absurd (n z))

    -- a continuing pin opposite a starting one
    top_goes_on_works : Met top bottom c tr A continues → Met top bottom c tr B starts → Works k (top_goes_on A B f (beside D M) (last_column top bottom A.net))
    unfolding top_goes_on
    top_goes_on_works a b =
        let E = beside D M in
        let ea = last_column top bottom A.net in
        by (Works k) (eqb E.net 0) (λ e. top_only_works k q a b.0 (s.none q (beside_stands.1 (eqb-true E.net 0 e))) b.1)
        (λ e. let p = beside_stands.0 (eqb-false E.net 0 e) in
        by (Works k) (ltb ea E.last)
        (λ i. top_short_works k q E p.doubled p.lone a.0.some b.0 a (omega (arith, ltb-true ea E.last i, p.last)))
        (λ i. top_long_works k q a b.0 E.net p.lone (omega (arith, ltb-false ea E.last i, p.last))))

    bottom_goes_on_works : Met top bottom c tr A starts → Met top bottom c tr B continues
        → Works k (bottom_goes_on A B f (beside D M) (last_column top bottom B.net))
    unfolding bottom_goes_on
    bottom_goes_on_works a b =
        let E = beside D M in
        let eb = last_column top bottom B.net in
        by (Works k) (eqb E.net 0) (λ e. bottom_only_works k q b a.0 (s.none q (beside_stands.1 (eqb-true E.net 0 e))) a.1)
        (λ e. let p = beside_stands.0 (eqb-false E.net 0 e) in
        by (Works k) (ltb eb E.last)
        (λ i. bottom_short_works k q E p.doubled p.lone a.0 b.0.some b (omega (arith, ltb-true eb E.last i, p.last)))
        (λ i. bottom_long_works k q b a.0 E.net p.lone (omega (arith, ltb-false eb E.last i, p.last))))

    -- two continuing pins
    both_go_on_works : Met top bottom c tr A continues → Met top bottom c tr B continues
        → Works k (both_go_on A B (last_column top bottom A.net) (last_column top bottom B.net) f)
    unfolding both_go_on
    both_go_on_works a b =
        let ea = last_column top bottom A.net in
        let eb = last_column top bottom B.net in
        let first = first_ends A.net B.net ea eb in
        by (Works k) (ltb B.low A.high) (λ e. both_direct_works k q.apart q.on a b (ltb-true B.low A.high e)) (λ e.
        by (Works k) (ends_first A.net B.net ea eb) (λ i. bottom_single_works k q b a.0.some a (first.0 i))
        (λ i. top_single_works k q a b.0.some b (first.1 i)))

  -- THE RULES IN ORDER, N the extended net of the lowest number (net 0: none), ea and eb the last columns of the pins' nets
  module _ (N : Joint) (joins : Joins top bottom c tr N) (over : N.net ≢ 0 → right top bottom c N.net ≡ 0)
      (calm : N.net ≡ 0 → (v : ℕ) → v ≢ 0 → right top bottom c v ≡ 0 → times v tr ≡ 0) (ea eb : ℕ) (ea_is : A.net ≢ 0 → last_column top bottom A.net ≡ ea)
      (eb_is : B.net ≢ 0 → last_column top bottom B.net ≡ eb) where
    module _ (d : B.net ≢ A.net) where
      -- no pin ends its net: an extended net is joined, else the last rule is used
      join_else_lem : (i j : Kind) → Met top bottom c tr A i → Met top bottom c tr B j → Stays i → Stays j → {x : Move} → (Calm k → Works k x)
          → Works k (join_else N A.net B.net x)
      unfolding join_else
      join_else_lem i j a b p r g =
          let on = both_on top bottom k.fit c tr A B k.pin d i j a b p r in
          by (Works k) (eqb N.net 0) (λ e. g record { apart = d; on = on; calm = calm (eqb-true N.net 0 e) })
          (λ e. let n = eqb-false N.net 0 e in join_works k d on N joins n (over n))

      -- THE SIXTEEN PAIRS OF KINDS
      kinds_works : (i j : Kind) → Met top bottom c tr A i → Met top bottom c tr B j → Works k (ThreePin.by_kinds A B ea eb f N D M i j)
      unfolding ThreePin.by_kinds
      kinds_works none none a b = straight_works k a b
      kinds_works none starts a b = join_else_lem none starts a b tt tt (λ q. bottom_starts_works q a b)
      kinds_works none continues a b = join_else_lem none continues a b tt tt (λ q. bottom_direct_works k d q.on b a)
      kinds_works none ends a b = bottom_ends_works k d b
      kinds_works starts none a b = join_else_lem starts none a b tt tt (λ q. top_starts_works q a b)
      kinds_works starts starts a b = join_else_lem starts starts a b tt tt (λ q. both_start_works q a b)
      kinds_works starts continues a b = join_else_lem starts continues a b tt tt (λ q. rw (eb_is b.0.some) at (bottom_goes_on_works q a b))
      kinds_works starts ends a b = bottom_ends_works k d b
      kinds_works continues none a b = join_else_lem continues none a b tt tt (λ q. top_direct_works k d q.on a b)
      kinds_works continues starts a b = join_else_lem continues starts a b tt tt (λ q. rw (ea_is a.0.some) at (top_goes_on_works q a b))
      kinds_works continues continues a b =
          join_else_lem continues continues a b tt tt (λ q. rw (ea_is a.0.some, eb_is b.0.some) at (both_go_on_works q a b))
      kinds_works continues ends a b = bottom_ends_works k d b
      kinds_works ends none a b = top_ends_works k d a
      kinds_works ends starts a b = top_ends_works k d a
      kinds_works ends continues a b = top_ends_works k d a
      kinds_works ends ends a b = either_ends_works k d a b

    -- ALL RULES
    pub chosen_works : Works k (choose_three t A B ea eb f N D M)
    unfolding choose_three
    chosen_works =
        by (Works k) (eqb A.net 0 && eqb B.net 0)
        (λ i. let z = and_true (eqb A.net 0) (eqb B.net 0) i in straight_works k (eqb-true A.net 0 z.0) (eqb-true B.net 0 z.1))
        (λ i. by (Works k) (eqb A.net B.net)
        (λ j. let e = eqb-true A.net B.net j in full_works k (not_none A.net B.net i e) e)
        (λ j. kinds_works (λ x. eqb-false A.net B.net j (sym x)) (kind_of A.kind) (kind_of B.kind) k.pin.above.met k.pin.below.met))
