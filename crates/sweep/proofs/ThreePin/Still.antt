-- The moves of three-pin channels that form no pair and take no free track: straight, full, those of pins that end their nets, a join, and pins that go
-- direct.
use Prim.Native.Nat.{ℕ, ◌≤◌, ◌<◌}
use mathlib.Core.Path.{◌≡◌, refl, sym, ◌∙◌, subst₂}
use mathlib.Core.Logic.{◌⊎◌, inl, inr, ◌≢◌}
use mathlib.Core.Bool.{◌&&◌, ◌||◌}
use mathlib.Core.List.{List}
use native.Mathlib.Omega.{arith}
use lib.Dec.{eqb, ltb}
use Rattle.grid.specs.Channel.{times, left, right}
use Rattle.grid.proofs.Tests.{ltb-true}
use Rattle.grid.proofs.Rows.{HasPin, three_last, right_suc}
use Rattle.sweep.specs.declared.Move.{Move}
use Rattle.sweep.specs.declared.Pin.{Pin}
use Rattle.sweep.specs.declared.Free.{Free}
use Rattle.sweep.specs.declared.Joint.{Joint}
use Rattle.sweep.specs.Rules.{continues, ends, straight, full, join_net, top_ends, bottom_ends, both_join, lies_below}
use Rattle.sweep.specs.ManyPin.{direct}
use Rattle.sweep.specs.ThreePin.{still, either_ends}
use Rattle.sweep.specs.Drawing.{joining}
use Rattle.sweep.specs.Working.{top_net}
use Rattle.sweep.proofs.Tracks.Strands.{strand_times}
use Rattle.sweep.proofs.Tracks.After.{after-times}
use Rattle.sweep.proofs.Columns.Sound.{grant_idle}
use Rattle.sweep.proofs.Gaps.Pins.{On, Off, Met}
use Rattle.sweep.proofs.Gaps.Joints.{Joins}
use Rattle.sweep.proofs.Actions.Good.{Good}
use Rattle.sweep.proofs.Actions.Ends.{both_join_good}
use Rattle.sweep.proofs.Actions.Joins.{joining_good}
use Rattle.sweep.proofs.Actions.Continues.{top_direct_good, bottom_direct_good, both_direct_good}
use Rattle.sweep.proofs.Rules.Chosen.{by, no_pins, full_here, here, started, top_ends_here, bottom_ends_here, join_here}
use Rattle.sweep.proofs.ThreePin.Kept.{thin_pin}
use Rattle.sweep.proofs.ThreePin.Gains.{pin_keep, joined_lost, nothing}
use Rattle.sweep.proofs.ThreePin.Works.{ThreeColumn, old_weight, new_weight, GoodMove, Works, still_good, top_pin, bottom_pin, gone, end_lost, gain_top}
use Rattle.sweep.proofs.ThreePin.Works.{gain_bottom, alone_light, end_light, ends_light, keep_light, one_light}

module _ {t : ℕ} {top bottom : List ℕ} {c : ℕ} {tr m : List ℕ} {A B : Pin} {f : Free} (k : ThreeColumn t top bottom c tr m A B f) where
  -- NO PINS
  pub straight_works : A.net ≡ 0 → B.net ≡ 0 → Works k (still straight)
  straight_works a b = record {
    good_move = w;
    light = alone_light k (still straight) w 0 (λ n. absurd (n refl)) (λ u n o. ((λ i. n (sym i ∙ a)), (λ i. n (sym i ∙ b))));
  }
    where
      w : GoodMove k (still straight)
      w = still_good k (no_pins top bottom k.fit c t tr k.kept.held.size A B k.pin f k.free a b)

  -- an extended net v is joined
  pub joining_works : A.net ≡ 0 → B.net ≡ 0 → (v : ℕ) → v ≢ 0 → 1 < times v tr → Off top bottom c v → Works k (still (joining tr v))
  unfolding joining
  joining_works a b v n p off = record {
    good_move = w;
    light = alone_light k x w v (λ i. omega (arith, empty)) (λ u n o. ((λ i. n (sym i ∙ a)), (λ i. n (sym i ∙ b))));
  }
    where
      x : Move
      x = still (joining tr v)

      w : GoodMove k x
      w = still_good k (subst₂ (λ (p q : ℕ). Good top bottom c t tr p q (joining tr v)) (sym a) (sym b)
          (joining_good top bottom c t tr k.kept.held.size v n p off))

      empty : new_weight k x v ≡ 0
      empty = nothing top bottom k.fit k.three c tr m k.kept x w.forms w.good v off (gone k x w v n off (inl refl))

  -- BOTH PINS OF ONE NET, which has none after
  pub full_works : A.net ≢ 0 → A.net ≡ B.net → Works k (still (full t A.net 0))
  full_works n e = record {
    good_move = w;
    light = alone_light k x w A.net (λ i. omega (arith, empty)) (λ u m o. (o, λ i. o (e ∙ i)));
  }
    where
      x : Move
      x = still (full t A.net 0)

      off : Off top bottom c A.net
      off =
          let p = k.pin.above.net in
          rw p at (three_last top bottom k.fit k.three c k.inside (λ i. n (sym p ∙ i)) (p ∙ e ∙ sym k.pin.below.net))

      w : GoodMove k x
      w = still_good k (full_here top bottom k.fit c t tr k.kept.held.size A B k.pin f k.free 0 n e (grant_idle (top_net refl))
          (λ o. absurd (omega (arith, off))) (λ o. refl))

      empty : new_weight k x A.net ≡ 0
      empty = nothing top bottom k.fit k.three c tr m k.kept x w.forms w.good A.net off (gone k x w A.net n off (inl refl))

  module _ (d : B.net ≢ A.net) where
    -- A PIN ENDS ITS NET
    pub top_ends_works : Met top bottom c tr A ends → Works k (still (top_ends A B))
    top_ends_works (a, l, r) = record {
      good_move = w;
      light = end_light k (still (top_ends A B)) w d A.net B.net a.some (λ i. d (sym i)) (top_pin k) (λ z i j. (i, j)) l r refl
          (gain_bottom k (still (top_ends A B)) w d);
    }
      where
        w : GoodMove k (still (top_ends A B))
        w = still_good k (top_ends_here top bottom k.fit c t tr k.kept.held.size A B k.pin f k.free d (a, l, r))

    -- mirrored
    pub bottom_ends_works : Met top bottom c tr B ends → Works k (still (bottom_ends A B))
    bottom_ends_works (b, l, r) = record {
      good_move = w;
      light = end_light k (still (bottom_ends A B)) w d B.net A.net b.some d (bottom_pin k) (λ z i j. (j, i)) l r refl
          (gain_top k (still (bottom_ends A B)) w d);
    }
      where
        w : GoodMove k (still (bottom_ends A B))
        w = still_good k (bottom_ends_here top bottom k.fit c t tr k.kept.held.size A B k.pin f k.free d (b, l, r))

    -- both do, the bottom net's strands below the top net's
    both_join_works : Met top bottom c tr A ends → Met top bottom c tr B ends → B.high < A.low → Works k (still (both_join A B))
    both_join_works (a, l, r) (b, o, s) p = record {
      good_move = w;
      light = ends_light k (still (both_join A B)) w d a.some b.some
          (end_lost k (still (both_join A B)) w A.net a.some (top_pin k) l r (inl refl))
          (end_lost k (still (both_join A B)) w B.net b.some (bottom_pin k) o s (inr refl)) l o;
    }
      where
        w : GoodMove k (still (both_join A B))
        w = still_good k (both_join_good top bottom c t tr k.kept.held.size A B d a b r s p)

    -- or one of them
    pub either_ends_works : Met top bottom c tr A ends → Met top bottom c tr B ends → Works k (still (either_ends A B))
    unfolding either_ends
    either_ends_works a b =
        by (λ x. Works k (still x)) (lies_below A B) (λ e. both_join_works a b (ltb-true B.high A.low e)) (λ e.
        by (λ x. Works k (still x)) (ltb B.many A.many || (eqb A.many B.many && ltb A.net B.net)) (λ i. top_ends_works a)
        (λ i. bottom_ends_works b))

    -- NO PIN ENDS ITS NET
    module _ (on : (v : ℕ) → v ≢ 0 → HasPin top bottom v c → On top bottom c v) where
      -- the nets of both go on
      pub pins_on : (v : ℕ) → v ≢ 0 → (A.net ≡ v) ⊎ (B.net ≡ v) → On top bottom c v
      pins_on v n o = on v n (here top bottom k.fit c t tr k.kept.held.size A B k.pin f k.free d v o)

      -- AN EXTENDED NET IS JOINED
      pub join_works : (N : Joint) → Joins top bottom c tr N → N.net ≢ 0 → right top bottom c N.net ≡ 0 → Works k (still (join_net N A.net B.net))
      join_works N joins n over = record {
        good_move = w;
        light = one_light k x w d N.net 2 1 1 record {
          some = n;
          not_top = λ i. far (inl i);
          not_bottom = λ i. far (inr i);
          begun = omega (arith, held, k.kept.held.few N.net n);
          less = joined_lost top bottom k.fit k.three c tr m k.kept x w.forms w.good N.net n over held
              (gone k x w N.net n (omega (arith, right_suc top bottom N.net c n)) (inl refl));
        } (gain_top k x w d) (gain_bottom k x w d) (omega arith);
      }
        where
          x : Move
          x = still (join_net N A.net B.net)

          w : GoodMove k x
          w = still_good k (join_here top bottom k.fit c t tr k.kept.held.size A B k.pin f k.free N joins n
              (started top bottom k.fit c t tr k.kept.held.size A B k.pin f k.free d))

          held : 0 < times N.net tr
          held = strand_times (joins.bound n).low_is

          far : (A.net ≡ N.net) ⊎ (B.net ≡ N.net) → ⊥
          far o = omega (arith, pins_on N.net n o, right_suc top bottom N.net c n)

      -- PINS THAT CONTINUE GO DIRECT: their nets have one strand still
      direct_works : (q p : ℕ) → GoodMove k (still (direct A B q p 0 0)) → (A.net ≢ 0 → 0 < left top bottom c A.net)
          → (B.net ≢ 0 → 0 < left top bottom c B.net) → Works k (still (direct A B q p 0 0))
      direct_works q p w a b = record {
        good_move = w;
        light = keep_light k (still (direct A B q p 0 0)) w d (λ n. keep A.net n (top_pin k) (a n)) (λ n. keep B.net n (bottom_pin k) (b n));
      }
        where
          keep : (v : ℕ) → v ≢ 0 → HasPin top bottom v c → 0 < left top bottom c v → new_weight k (still (direct A B q p 0 0)) v ≤ old_weight k v
          keep v n h l =
              pin_keep top bottom k.fit k.three c tr m k.kept (still (direct A B q p 0 0)) w.forms w.good v n h l (on v n h)
              (inl (omega (arith, after-times (direct A B q p 0 0) tr v n, thin_pin top bottom k.fit k.three c tr k.kept.held v n h (on v n h))))

      -- one pin, the other, or both
      pub top_direct_works : Met top bottom c tr A continues → B.net ≡ 0 → Works k (still (direct A B 0 A.high 0 0))
      top_direct_works (a, l, r) z =
          direct_works 0 A.high (still_good k (top_direct_good top bottom c t tr k.kept.held.size A B pins_on a z)) (λ n. l) (λ n. absurd (n z))

      pub bottom_direct_works : Met top bottom c tr B continues → A.net ≡ 0 → Works k (still (direct A B B.low B.low 0 0))
      bottom_direct_works (b, l, r) z =
          direct_works B.low B.low (still_good k (bottom_direct_good top bottom c t tr k.kept.held.size A B pins_on b z)) (λ n. absurd (n z)) (λ n. l)

      pub both_direct_works : Met top bottom c tr A continues → Met top bottom c tr B continues → B.low < A.high
          → Works k (still (direct A B B.low A.high 0 0))
      both_direct_works (a, l, r) (b, o, s) p =
          direct_works B.low A.high (still_good k (both_direct_good top bottom c t tr k.kept.held.size A B pins_on a b p)) (λ n. l) (λ n. o)
