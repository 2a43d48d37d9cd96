-- The actions of a column with no pins, with both pins of one net, and of starting pins that take free tracks.
use Prim.Native.Nat.{ℕ, suc, ◌≤◌, ◌<◌, zero-le}
use mathlib.Core.Path.{◌≡◌, refl, sym}
use mathlib.Core.Logic.{inl, inr, ◌≢◌, ⊎_elim}
use mathlib.Core.List.{List}
use native.Mathlib.Omega.{arith}
use lib.ListN.{length, get_or}
use Rattle.grid.proofs.Counting.{at_below}
use Rattle.grid.proofs.Drawings.Segments.{Ordered, segment_run, segment_none, alone, bottom_run, top_run}
use Rattle.sweep.specs.declared.Free.{Free}
use Rattle.sweep.specs.Rules.{straight, full, top_takes_free, bottom_takes_free, both_take_free}
use Rattle.sweep.proofs.Tracks.Strands.{Strand}
use Rattle.sweep.proofs.Tracks.After.{gives, one_track, two_tracks, one_leaves, two_leaves, gift_le}
use Rattle.sweep.proofs.Columns.Sound.{Grant, outward, through, grant_none, grant_free, pin_net}
use Rattle.sweep.specs.Working.{nobody, top_net, bottom_net}
use Rattle.sweep.proofs.Gaps.Pins.{On, Off}
use Rattle.sweep.proofs.Actions.Good.{Good, BothOn, none_ends, pin_wires_sound, bottom_end_lem, back_within, on_bottom_lem, on_top_lem, none_given, one_given}

module _ (top bottom : List ℕ) (c t : ℕ) (tr : List ℕ) (size : length tr ≡ t) where
  -- NO PINS
  pub straight_good : Good top bottom c t tr 0 0 straight
  straight_good = (
    pin_wires_sound zero-le zero-le (segment_run (order t) (top_run refl) 0 zero-le (omega arith)) (one_track straight refl refl) grant_none grant_none grant_none
        (pin_net (nobody refl)) (nobody refl)
        (λ n. absurd (n refl)) (λ n. absurd (n refl)) (none_given tr straight refl refl refl) (λ n. absurd (n refl)) (λ n. absurd (n refl)),
    none_ends top bottom c t tr straight (λ v n here. absurd (⊎_elim (λ i. n (sym i)) (λ i. n (sym i)) here)) (λ v n m. zero-le) refl refl,
  )
    where
      order : (t : ℕ) → Ordered t straight.wires
      order t = omega arith

  -- BOTH PINS OF ONE NET: its strands are joined, and it leaves on track y if it has later pins
  pub full_good : (v y : ℕ) → v ≢ 0 → Grant v v v tr y v → (On top bottom c v → (u : ℕ) × Strand u tr y) → (Off top bottom c v → y ≡ 0)
      → Good top bottom c t tr v v (full t v y)
  full_good v y n g s z = (
    record {
      order = order;
      bottom_is = refl;
      top_is = refl;
      bottom_end = segment_run order (bottom_run refl) 0 zero-le (omega arith);
      top_end = segment_run order (bottom_run refl) t zero-le (omega arith);
      distinct = one_track (full t v y) refl refl;
      grant1 = g;
      grant2 = grant_none;
      grant3 = grant_none;
      ended_known = pin_net (top_net refl);
      closed_named = nobody refl;
      middle_is = inl refl;
      bottom_lands = λ a. through (inl refl) refl;
      top_lands = λ a. through (inl refl) refl;
      given = one_given tr (full t v y) refl refl (λ j N e f. on_bottom_lem (full t v y) f e (omega (arith, (g.vacant j e).0)));
      ended_fares = λ a. alone (bottom_run refl) (omega arith) record {
        on_bottom = λ e p. omega arith;
        on_middle = λ e p. absurd (omega arith);
        on_top = λ e p. absurd (omega arith);
      } within (back_within (full t v y) tr v 0 (suc t) n within (λ j p g. (zero-le, omega arith)));
      closed_fares = λ a. absurd (a refl);
    },
    record {
      ended_on = λ a p. (y, one_leaves (full t v y) tr (one_track (full t v y) refl refl) (s p).1 refl);
      ended_off = λ a p. rw (z p) refl;
      ended_few = λ a. omega (arith, gift_le v y v);
      closed_off = λ a. absurd (a refl);
      others_few = λ u m d k. omega (arith, gift_le u y v);
      beside = λ u m here d k p. absurd (⊎_elim (λ i. d i) (λ i. d i) here);
    },
  )
    where
      order : Ordered t (full t v y).wires
      order = omega arith

      within : (j : ℕ) → get_or tr j 0 ≡ v → (0 ≤ suc j) × (suc j ≤ suc t)
      within j e = (zero-le, omega (arith, at_below tr j v n e))

  -- STARTING PINS ON FREE TRACKS
  pub top_takes_free_good : (f : Free) (a : ℕ) → Strand 0 tr f.first → BothOn top bottom c t tr a 0 → Good top bottom c t tr a 0 (top_takes_free f a)
  top_takes_free_good f a s on = (
    pin_wires_sound zero-le (omega arith) (segment_none order 0 zero-le (omega arith) (inr zero-le)) (one_track (top_takes_free f a) refl refl)
        (grant_free s (top_net refl)) grant_none grant_none (pin_net (nobody refl)) (nobody refl)
        (λ n. absurd (n refl))
        (λ n. outward (one_leaves (top_takes_free f a) tr (one_track (top_takes_free f a) refl refl) s refl))
        (one_given tr (top_takes_free f a) refl refl (λ j N e g. on_top_lem (top_takes_free f a) g e (omega arith) (omega arith)))
        (λ n. absurd (n refl)) (λ n. absurd (n refl)),
    none_ends top bottom c t tr (top_takes_free f a) on (λ v n m. omega (arith, gift_le v f.first a)) refl refl,
  )
    where
      order : Ordered t (top_takes_free f a).wires
      order = omega arith

  -- the bottom pin alone
  pub bottom_takes_free_good : (f : Free) (b : ℕ) → Strand 0 tr f.first → BothOn top bottom c t tr 0 b → Good top bottom c t tr 0 b (bottom_takes_free f b)
  bottom_takes_free_good f b s on = (
    pin_wires_sound (omega arith) (omega arith) (bottom_end_lem t (bottom_takes_free f b) (omega arith) (omega arith)) (one_track (bottom_takes_free f b) refl refl)
        (grant_free s (bottom_net refl)) grant_none grant_none (pin_net (nobody refl)) (nobody refl)
        (λ n. outward (one_leaves (bottom_takes_free f b) tr (one_track (bottom_takes_free f b) refl refl) s refl))
        (λ n. absurd (n refl))
        (one_given tr (bottom_takes_free f b) refl refl (λ j N e g. on_bottom_lem (bottom_takes_free f b) g e (omega arith)))
        (λ n. absurd (n refl)) (λ n. absurd (n refl)),
    none_ends top bottom c t tr (bottom_takes_free f b) on (λ v n m. omega (arith, gift_le v f.first b)) refl refl,
  )

  -- both, the top pin on the higher track
  pub both_take_free_good : (f : Free) (a b : ℕ) → Strand 0 tr f.first → Strand 0 tr f.second → f.first < f.second → BothOn top bottom c t tr a b
      → Good top bottom c t tr a b (both_take_free f a b)
  both_take_free_good f a b s r p on =
      let d = two_tracks (both_take_free f a b) (omega arith) refl in (
        pin_wires_sound (omega arith) (omega arith) (bottom_end_lem t (both_take_free f a b) (omega arith) (omega arith)) d (grant_free s (bottom_net refl))
            (grant_free r (top_net refl)) grant_none (pin_net (nobody refl)) (nobody refl)
            (λ n. outward (one_leaves (both_take_free f a b) tr d s refl))
            (λ n. outward (two_leaves (both_take_free f a b) tr d r refl))
            (λ j N n. gives (λ e g. inr (on_bottom_lem (both_take_free f a b) g e (omega arith)))
            (λ e g. inr (on_top_lem (both_take_free f a b) g e (omega arith) (omega arith))) (λ e g. absurd (omega arith)))
            (λ n. absurd (n refl)) (λ n. absurd (n refl)),
        none_ends top bottom c t tr (both_take_free f a b) on (λ v n m. omega (arith, gift_le v f.first b, gift_le v f.second a)) refl refl,
      )
