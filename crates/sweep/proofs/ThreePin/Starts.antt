-- The moves of three-pin channels with only starting pins, where no double net is unpaired: they take free tracks.
use Prim.Native.Nat.{ℕ, ◌≤◌}
use mathlib.Core.Path.{sym, ◌∙◌}
use mathlib.Core.Logic.{◌≢◌}
use mathlib.Core.List.{List}
use Rattle.grid.specs.Channel.{times}
use Rattle.sweep.specs.declared.Move.{Move}
use Rattle.sweep.specs.declared.Pin.{Pin}
use Rattle.sweep.specs.declared.Free.{Free}
use Rattle.sweep.specs.Pairs.{mate}
use Rattle.sweep.specs.Rules.{none, starts, top_takes_free, bottom_takes_free, both_take_free}
use Rattle.sweep.specs.ThreePin.{still}
use Rattle.sweep.proofs.Gaps.Pins.{Met}
use Rattle.sweep.proofs.Rules.Chosen.{top_alone, bottom_alone, both_start}
use Rattle.sweep.proofs.ThreePin.Space.{room_one, room_two}
use Rattle.sweep.proofs.ThreePin.Works.{ThreeColumn, GoodMove, Works, still_good, top_pin, bottom_pin, differ}
use Rattle.sweep.proofs.ThreePin.Calm.{Calm, starts_thin, dense_light}

module _ {t : ℕ} {top bottom : List ℕ} {c : ℕ} {tr m : List ℕ} {A B : Pin} {f : Free} (k : ThreeColumn t top bottom c tr m A B f) (q : Calm k)
    (nolone : (v : ℕ) → v ≢ 0 → 2 ≤ times v tr → mate v m ≢ 0) where
  -- the top pin alone
  pub top_free_works : Met top bottom c tr A starts → Met top bottom c tr B none → Works k (still (top_takes_free f A.net))
  top_free_works a b = record {
    good_move = w;
    light = dense_light k q x w (λ n. starts_thin k q x w A.net n (top_pin k) a.1) (λ n. absurd (n b)) (λ v n p. nolone v n);
  }
    where
      x : Move
      x = still (top_takes_free f A.net)

      free : 1 ≤ times 0 tr
      free = room_one top bottom k.fit k.three k.enough c k.inside tr m k.kept q.calm q.on nolone A.net a.0 (top_pin k) a.1

      w : GoodMove k x
      w = still_good k (top_alone top bottom k.fit c t tr k.kept.held.size A B k.pin f k.free q.apart a b free)

  -- the bottom pin alone
  pub bottom_free_works : Met top bottom c tr A none → Met top bottom c tr B starts → Works k (still (bottom_takes_free f B.net))
  bottom_free_works a b = record {
    good_move = w;
    light = dense_light k q x w (λ n. absurd (n a)) (λ n. starts_thin k q x w B.net n (bottom_pin k) b.1) (λ v n p. nolone v n);
  }
    where
      x : Move
      x = still (bottom_takes_free f B.net)

      free : 1 ≤ times 0 tr
      free = room_one top bottom k.fit k.three k.enough c k.inside tr m k.kept q.calm q.on nolone B.net b.0 (bottom_pin k) b.1

      w : GoodMove k x
      w = still_good k (bottom_alone top bottom k.fit c t tr k.kept.held.size A B k.pin f k.free q.apart a b free)

  -- both
  pub both_free_works : Met top bottom c tr A starts → Met top bottom c tr B starts → Works k (still (both_take_free f A.net B.net))
  both_free_works a b = record {
    good_move = w;
    light = dense_light k q x w (λ n. starts_thin k q x w A.net n (top_pin k) a.1) (λ n. starts_thin k q x w B.net n (bottom_pin k) b.1)
        (λ v n p. nolone v n);
  }
    where
      x : Move
      x = still (both_take_free f A.net B.net)

      free : 2 ≤ times 0 tr
      free =
          let i = k.pin.above.net in
          let j = k.pin.below.net in
          room_two top bottom k.fit k.three k.enough c k.inside tr m k.kept q.calm q.on nolone (differ k q.apart)
          (λ z. a.0 (sym i ∙ z)) (λ z. b.0 (sym j ∙ z)) (rw i a.1) (rw j b.1)

      w : GoodMove k x
      w = still_good k (both_start top bottom k.fit c t tr k.kept.held.size A B k.pin f k.free q.apart a b free)
