-- The moves of three-pin channels with two pins of which one continues its net, or both, where no net is reduced.
use Prim.Native.Nat.{ℕ, ◌≤◌}
use mathlib.Core.Path.{◌≡◌, refl, sym}
use mathlib.Core.Logic.{inl, inr, ◌≢◌}
use mathlib.Core.List.{List}
use native.Mathlib.Omega.{arith}
use lib.Dec.{eqb, ltb}
use Rattle.grid.specs.Channel.{times, left}
use Rattle.grid.specs.Nets.{last_column}
use Rattle.grid.proofs.Tests.{bit_most}
use Rattle.sweep.specs.declared.Move.{Move}
use Rattle.sweep.specs.declared.Pin.{Pin}
use Rattle.sweep.specs.declared.Free.{Free}
use Rattle.sweep.specs.Tracks.{after}
use Rattle.sweep.specs.Pairs.{mate}
use Rattle.sweep.specs.Rules.{continues}
use Rattle.sweep.specs.ManyPin.{direct, top_moves, bottom_moves, top_continues, bottom_continues}
use Rattle.sweep.specs.ThreePin.{pairing, still}
use Rattle.sweep.proofs.Tracks.After.{after-times, after_ended, gift_le, gift_other}
use Rattle.sweep.proofs.Gaps.Pins.{Met}
use Rattle.sweep.proofs.Actions.Good.{Good, other_gift}
use Rattle.sweep.proofs.Rules.Chosen.{by, top_continues_here, bottom_continues_here}
use Rattle.sweep.proofs.ThreePin.Works.{ThreeColumn, GoodMove, Works, still_good, top_pin, bottom_pin, gain_top, gain_bottom, keep_light, one_light}
use Rattle.sweep.proofs.ThreePin.Still.{pins_on}
use Rattle.sweep.proofs.ThreePin.Calm.{Calm, Lone, pins_room, pin_thin, one_strand, not_top_lem, not_bottom_lem, lone_loses, lone_pairable, pin_pairable}
use Rattle.sweep.proofs.ThreePin.Calm.{pair_good, double_tied, single_tied, keeps_weight, starts_thin, dense_light}

module _ {t : ℕ} {top bottom : List ℕ} {c : ℕ} {tr m : List ℕ} {A B : Pin} {f : Free} (k : ThreeColumn t top bottom c tr m A B f) (q : Calm k) where
  -- a pin's net has two strands at most
  few_top : A.net ≢ 0 → A.many ≤ 2
  few_top n = omega (arith, k.pin.above.some n, pin_thin k q A.net n (top_pin k))

  few_bottom : B.net ≢ 0 → B.many ≤ 2
  few_bottom n = omega (arith, k.pin.below.some n, pin_thin k q B.net n (bottom_pin k))

  -- THE TOP PIN CONTINUES, and its net stays single
  module _ (a : Met top bottom c tr A continues) (o : B.net ≢ 0) where
    -- the action is good
    top_good : Good top bottom c t tr A.net B.net (top_continues A B f)
    top_good =
        top_continues_here top bottom k.fit c t tr k.kept.held.size A B k.pin f k.free q.apart (few_top a.0.some) (few_bottom o)
        (pins_on k q.apart q.on) a.0 (pins_room k q a.0.some o)

    -- its net has one strand after it
    top_thin : times A.net (after (top_continues A B f) tr) ≤ 1
    unfolding top_continues
    top_thin =
        let n = a.0.some in
        let one = one_strand k q A.net n (top_pin k) a.1 in
        by (λ x. times A.net (after x tr) ≤ 1) (ltb f.first A.high)
        (λ i. omega (
          arith,
          after-times (direct A B f.first A.high f.first B.net) tr A.net n,
          gift_other A.net f.first B.net q.apart,
        ))
        (λ i. omega (
          arith,
          after_ended (top_moves A B f) tr A.net n (inl refl),
          gift_le A.net f.first A.net,
          bit_most (eqb A.net A.net),
          gift_other A.net A.high B.net q.apart,
          other_gift A.net A.many A.low (omega (arith, a.0.count)),
          a.0.count,
        ))

    -- the bottom pin continues too, and its net ends no later: it gets a second strand, and the two are a pair
    pub top_single_works : Met top bottom c tr B continues → last_column top bottom B.net ≤ last_column top bottom A.net
        → Works k (pairing (top_continues A B f) B.net A.net)
    top_single_works b e = record {
      good_move = w;
      light = keep_light k x w q.apart (λ n. keeps_weight k q x w A.net n (top_pin k) a.1 (inr (single_tied k q x w o)))
          (λ n. keeps_weight k q x w B.net n (bottom_pin k) b.1 (inr (double_tied k q x w o)));
    }
      where
        x : Move
        x = pairing (top_continues A B f) B.net A.net

        w : GoodMove k x
        w = pair_good k q top_good (pin_pairable k q B.net o (bottom_pin k) b.1) (pin_pairable k q A.net a.0.some (top_pin k) a.1) q.apart
            top_thin e

    -- the bottom pin starts, and no double net is unpaired
    pub top_only_works : ((v : ℕ) → v ≢ 0 → 2 ≤ times v tr → mate v m ≢ 0) → left top bottom c B.net ≡ 0 → Works k (still (top_continues A B f))
    top_only_works nolone z = record {
      good_move = w;
      light = dense_light k q (still (top_continues A B f)) w (λ n. top_thin) (λ n. starts_thin k q (still (top_continues A B f)) w B.net n (bottom_pin k) z)
          (λ v n p. nolone v n);
    }
      where
        w : GoodMove k (still (top_continues A B f))
        w = still_good k top_good

    -- the bottom pin starts, and the unpaired double net D ends no later: the two are a pair
    pub top_long_works : (D : ℕ) → Lone k D → last_column top bottom D ≤ last_column top bottom A.net → Works k (pairing (top_continues A B f) D A.net)
    top_long_works D l e = record {
      good_move = w;
      light = one_light k x w q.apart D 1 0 1 (lone_loses k q D l x w (inr (double_tied k q x w l.some)))
          (λ n. omega (arith, keeps_weight k q x w A.net n (top_pin k) a.1 (inl top_thin))) (gain_bottom k x w q.apart) (omega arith);
    }
      where
        x : Move
        x = pairing (top_continues A B f) D A.net

        w : GoodMove k x
        w = pair_good k q top_good (lone_pairable k q D l) (pin_pairable k q A.net a.0.some (top_pin k) a.1) (λ i. not_top_lem k q D l (sym i))
            top_thin e

  -- MIRRORED: the bottom pin continues, and its net stays single
  module _ (b : Met top bottom c tr B continues) (o : A.net ≢ 0) where
    -- the action is good
    bottom_good : Good top bottom c t tr A.net B.net (bottom_continues A B f)
    bottom_good =
        bottom_continues_here top bottom k.fit c t tr k.kept.held.size A B k.pin f k.free q.apart (few_top o) (few_bottom b.0.some)
        (pins_on k q.apart q.on) b.0 (pins_room k q o b.0.some)

    -- its net has one strand after it
    bottom_thin : times B.net (after (bottom_continues A B f) tr) ≤ 1
    unfolding bottom_continues
    bottom_thin =
        let n = b.0.some in
        let one = one_strand k q B.net n (bottom_pin k) b.1 in
        by (λ x. times B.net (after x tr) ≤ 1) (ltb B.low f.first)
        (λ i. omega (
          arith,
          after-times (direct A B B.low f.first f.first A.net) tr B.net n,
          gift_other B.net f.first A.net (λ i. q.apart (sym i)),
        ))
        (λ i. omega (
          arith,
          after_ended (bottom_moves A B f) tr B.net n (inl refl),
          gift_le B.net f.first B.net,
          bit_most (eqb B.net B.net),
          gift_other B.net B.low A.net (λ i. q.apart (sym i)),
          other_gift B.net B.many B.high (omega (arith, b.0.count)),
          b.0.count,
        ))

    -- the top pin continues too, and its net ends no later
    pub bottom_single_works : Met top bottom c tr A continues → last_column top bottom A.net ≤ last_column top bottom B.net
        → Works k (pairing (bottom_continues A B f) A.net B.net)
    bottom_single_works a e = record {
      good_move = w;
      light = keep_light k x w q.apart (λ n. keeps_weight k q x w A.net n (top_pin k) a.1 (inr (double_tied k q x w o)))
          (λ n. keeps_weight k q x w B.net n (bottom_pin k) b.1 (inr (single_tied k q x w o)));
    }
      where
        x : Move
        x = pairing (bottom_continues A B f) A.net B.net

        w : GoodMove k x
        w = pair_good k q bottom_good (pin_pairable k q A.net o (top_pin k) a.1) (pin_pairable k q B.net b.0.some (bottom_pin k) b.1)
            (λ i. q.apart (sym i)) bottom_thin e

    -- the top pin starts, and no double net is unpaired
    pub bottom_only_works : ((v : ℕ) → v ≢ 0 → 2 ≤ times v tr → mate v m ≢ 0) → left top bottom c A.net ≡ 0 → Works k (still (bottom_continues A B f))
    bottom_only_works nolone z = record {
      good_move = w;
      light = dense_light k q (still (bottom_continues A B f)) w (λ n. starts_thin k q (still (bottom_continues A B f)) w A.net n (top_pin k) z)
          (λ n. bottom_thin) (λ v n p. nolone v n);
    }
      where
        w : GoodMove k (still (bottom_continues A B f))
        w = still_good k bottom_good

    -- the top pin starts, and the unpaired double net D ends no later
    pub bottom_long_works : (D : ℕ) → Lone k D → last_column top bottom D ≤ last_column top bottom B.net → Works k (pairing (bottom_continues A B f) D B.net)
    bottom_long_works D l e = record {
      good_move = w;
      light = one_light k x w q.apart D 1 1 0 (lone_loses k q D l x w (inr (double_tied k q x w l.some))) (gain_top k x w q.apart)
          (λ n. omega (arith, keeps_weight k q x w B.net n (bottom_pin k) b.1 (inl bottom_thin))) (omega arith);
    }
      where
        x : Move
        x = pairing (bottom_continues A B f) D B.net

        w : GoodMove k x
        w = pair_good k q bottom_good (lone_pairable k q D l) (pin_pairable k q B.net b.0.some (bottom_pin k) b.1) (λ i. not_bottom_lem k q D l (sym i))
            bottom_thin e
