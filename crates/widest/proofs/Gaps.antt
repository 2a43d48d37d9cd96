-- The sweep over the rows written, gap by gap, and the width of the drawing: the first half puts net y on track y, the second leaves every other net on two
-- tracks.
use Prim.Native.Nat.{ℕ, zero, suc, ◌+◌, ◌*◌, ◌≤◌, ◌<◌}
use mathlib.Core.Path.{◌≡◌, refl, sym, ap, ap₂, ◌∙◌, subst}
use mathlib.Core.Logic.{◌≢◌}
use mathlib.Core.Bool.{not, ◌&&◌}
use mathlib.Core.List.{List, ◌∷◌, ◌++◌, append-nil}
use native.Mathlib.Omega.{arith}
use native.Mathlib.Decide.{ℕ_discrete}
use lib.Dec.{eqb, ltb, leb}
use lib.ListN.{length, get_or, replicate}
use Rattle.grid.specs.Channel.{bit, times, left, tracks}
use Rattle.grid.proofs.Tests.{ne_eqb, lt-ltb, le-ltb, ltb-true, le-leb, lt-leb, and_true, bit_most}
use Rattle.grid.proofs.Rows.{two_fit, two_density, left-right}
use Rattle.sweep.specs.declared.Action.{Action}
use Rattle.sweep.specs.declared.Pin.{Pin}
use Rattle.sweep.specs.Tracks.{lowest, highest, many, after}
use Rattle.sweep.specs.Rules.{kind_of, straight, both_take_free, both_end, top_ends}
use Rattle.sweep.specs.TwoPin.{join_or, by_kinds, choose_two}
use Rattle.sweep.specs.Drawing.{free_of, state_by, gap, width_by, width}
use Rattle.sweep.proofs.Tracks.Nets.{a_net}
use Rattle.sweep.proofs.Gaps.Held.{Enough, two_enough, no_more}
use Rattle.sweep.proofs.Rules.SoFar.{pin_so_far, extended_so_far, move_so_far}
use Rattle.sweep.proofs.Drawing.Added.{added-least}
use Rattle.sweep.proofs.Drawing.Beginning.{TwoPinOn, gap_so_far, gap_so_far_lem}
use Rattle.sweep.proofs.Solved.{gaps, width_most}
use Rattle.widest.specs.Widest.{top_of, bottom_of}
use Rattle.widest.proofs.Rows.{columns, empty_pins, first-pins, second-pins, left_empty, left-first, left-second, fit, pairs, dense}
use Rattle.widest.proofs.Tracks.{in_turn, in_turn_length, in_turn_more, in_turn_none, after-straight, after_start, crossed, after_cross}

-- THE RULES, by the columns so far: net v has `seen v` pins left of the gap whose tracks are tr
module _ (seen : ℕ → ℕ) (tr : List ℕ) where
  -- no net is extended where none has both its pins there
  none_extended : ((v : ℕ) → v ≢ 0 → seen v ≤ 1) → extended_so_far seen tr ≡ 0
  unfolding extended_so_far
  none_extended few = go (ℕ_discrete (extended_so_far seen tr) 0)
    where
      go : Dec (extended_so_far seen tr ≡ 0) → extended_so_far seen tr ≡ 0
      go (yes e) = e
      go (no n) =
          let v = extended_so_far seen tr in
          let s = (a_net (λ u. not (eqb u 0) && ltb 1 (seen u)) tr v n refl).0 in
          absurd (omega (arith, few v n, ltb-true 1 (seen v) (and_true (not (eqb v 0)) (ltb 1 (seen v)) s).1))

  -- rule 1: no pins, and no net to join
  empty_move : (t a b : ℕ) → a ≡ 0 → b ≡ 0 → extended_so_far seen tr ≡ 0 → (move_so_far seen tr t a b).action ≡ straight
  unfolding move_so_far
  empty_move t a b e f n = rw (e, f, n)

  -- a pin of net v and a kind
  abbrev net_pin : (v kind : ℕ) → Pin
  net_pin v k = record { net = v; kind = k; low = lowest v tr; high = highest v tr; many = many v tr }

  -- it starts a net that has none so far, and ends one that has
  starting : (v : ℕ) → v ≢ 0 → seen v ≡ 0 → pin_so_far seen tr v ≡ net_pin v 1
  unfolding pin_so_far
  starting v n e = rw (ne_eqb v 0 n, le-ltb 0 (seen v) (omega arith))

  ending : (v : ℕ) → v ≢ 0 → 0 < seen v → pin_so_far seen tr v ≡ net_pin v 3
  unfolding pin_so_far
  ending v n p = rw (ne_eqb v 0 n, lt-ltb 0 (seen v) p)

  module _ (t a b : ℕ) (na : a ≢ 0) (nb : b ≢ 0) (d : a ≢ b) where
    -- rule 2: two pins start nets, and there is no net to join
    start_move : seen a ≡ 0 → seen b ≡ 0 → extended_so_far seen tr ≡ 0 → (move_so_far seen tr t a b).action ≡ both_take_free (free_of tr) a b
    unfolding move_so_far choose_two by_kinds kind_of join_or
    start_move e f n = rw (starting a na e, starting b nb f, ne_eqb a 0 na, ne_eqb a b d, n)

    -- rule 4: two pins end nets, and the top pin's lies below
    cross_move : 0 < seen a → 0 < seen b → lowest a tr ≤ highest b tr → (move_so_far seen tr t a b).action ≡ top_ends (net_pin a 3) (net_pin b 3)
    unfolding move_so_far choose_two by_kinds kind_of both_end
    cross_move p q l = rw (ending a na p, ending b nb q, ne_eqb a 0 na, ne_eqb a b d, le-ltb (highest b tr) (lowest a tr) l)

-- the nets that start in column i + 1 of the first half, and end in that of the second
abbrev odd : ℕ → ℕ
odd i = 1 + 2 * i

abbrev even : ℕ → ℕ
even i = 2 + 2 * i

-- THE SWEEP over r empty columns and two halves of h, on 2h tracks
module _ (r h : ℕ) where
  -- the tracks in gap c, by the columns so far
  abbrev tracks_at : ℕ → List ℕ
  tracks_at = gap_so_far (2 * h) (top_of r h) (bottom_of r h)

  -- a column that does x there
  step : (c : ℕ) (x : Action) → (move_so_far (left (top_of r h) (bottom_of r h) c) (tracks_at c) (2 * h) (get_or (top_of r h) c 0) (get_or (bottom_of r h) c 0)).action ≡ x
      → tracks_at (suc c) ≡ after x (tracks_at c)
  unfolding state_by
  step c x e = ap (λ (y : Action). after y (tracks_at c)) e

  -- THE EMPTY COLUMNS: all tracks are free
  empty_gap : (c : ℕ) → c ≤ r → tracks_at c ≡ replicate (2 * h) 0
  unfolding state_by
  empty_gap zero p = refl
  empty_gap (suc c) p =
      step c straight
      (empty_move (left (top_of r h) (bottom_of r h) c) (tracks_at c) (2 * h) (get_or (top_of r h) c 0) (get_or (bottom_of r h) c 0) (empty_pins r h c p).0 (empty_pins r h c p).1
      (none_extended (left (top_of r h) (bottom_of r h) c) (tracks_at c) (λ v n. omega (arith, left_empty r h v n c (omega arith)))))
      ∙ after-straight (tracks_at c)
      ∙ empty_gap c (omega arith)

  -- THE FIRST HALF: column r + i + 1 puts the nets 2i + 1 and 2i + 2 on the tracks of these numbers
  start_step : (i : ℕ) → i < h → (p l : List ℕ) → length p ≡ 2 * i → times 0 p ≡ 0 → tracks_at (r + i) ≡ p ++ 0 ∷ 0 ∷ l
      → tracks_at (suc (r + i)) ≡ p ++ odd i ∷ even i ∷ l
  start_step i q p l s z e =
      step (r + i) (both_take_free (free_of (tracks_at (r + i))) (even i) (odd i))
      (ap₂ (λ (a b : ℕ). (move_so_far seen (tracks_at (r + i)) (2 * h) a b).action) (first-pins r h i q).0 (first-pins r h i q).1
      ∙ start_move seen (tracks_at (r + i)) (2 * h) (even i) (odd i) (omega arith) (omega arith) (omega arith) (unseen (even i) (omega arith)) (unseen (odd i) (omega arith))
      (none_extended seen (tracks_at (r + i)) (λ v n. omega (arith, left-first r h v n i (omega arith), bit_most (leb v (2 * i))))))
      ∙ ap (λ (tr : List ℕ). after (both_take_free (free_of tr) (even i) (odd i)) tr) e
      ∙ after_start p l (2 * i) s z (even i) (odd i)
    where
      seen : ℕ → ℕ
      seen = left (top_of r h) (bottom_of r h) (r + i)

      unseen : (v : ℕ) → 2 * i < v → seen v ≡ 0
      unseen v o = left-first r h v (omega arith) i (omega arith) ∙ ap bit (lt-leb v (2 * i) o)

  -- after i of its columns
  first_half : (i j : ℕ) → i + j ≡ h → tracks_at (r + i) ≡ in_turn odd even i 0 ++ replicate (2 * j) 0
  unfolding in_turn
  first_half zero j e =
      let a : r + 0 ≡ r = omega arith in
      let b : 2 * h ≡ 2 * j = omega arith in
      ap tracks_at a ∙ empty_gap r (omega arith) ∙ ap (λ (n : ℕ). replicate n 0) b
  first_half (suc i) j e =
      let a : r + suc i ≡ suc (r + i) = omega arith in
      let b : 2 * suc j ≡ suc (suc (2 * j)) = omega arith in
      ap tracks_at a
      ∙ start_step i (omega arith) (in_turn odd even i 0) (replicate (2 * j) 0) (in_turn_length odd even i 0)
      (in_turn_none odd even 0 i 0 (λ n p q. (omega arith, omega arith)))
      (first_half i (suc j) (omega arith) ∙ ap (λ (n : ℕ). in_turn odd even i 0 ++ replicate n 0) b)
      ∙ in_turn_more odd even i (replicate (2 * j) 0)

  -- THE SECOND HALF: column r + h + i + 1 ends net 2i + 1, and net 2i + 2 takes its track beside its own
  end_step : (i : ℕ) → i < h → (p l : List ℕ) → length p ≡ 2 * i → times (odd i) p ≡ 0 → times (odd i) l ≡ 0
      → tracks_at (r + (h + i)) ≡ p ++ odd i ∷ even i ∷ l → tracks_at (suc (r + (h + i))) ≡ p ++ even i ∷ even i ∷ l
  end_step i q p l s z u e =
      step (r + (h + i)) (top_ends (net_pin seen (tracks_at (r + (h + i))) (odd i) 3) (net_pin seen (tracks_at (r + (h + i))) (even i) 3))
      (ap₂ (λ (a b : ℕ). (move_so_far seen (tracks_at (r + (h + i))) (2 * h) a b).action) (second-pins r h i q).0 (second-pins r h i q).1
      ∙ cross_move seen (tracks_at (r + (h + i))) (2 * h) (odd i) (even i) (omega arith) (omega arith) (omega arith) (begun (odd i) (omega arith) (omega arith))
      (begun (even i) (omega arith) (omega arith))
      (subst (λ (tr : List ℕ). lowest (odd i) tr ≤ highest (even i) tr) (sym e) (crossed p l (2 * i) s (odd i) (even i) (omega arith) (omega arith) z)))
      ∙ ap (λ (tr : List ℕ). after (top_ends (net_pin seen tr (odd i) 3) (net_pin seen tr (even i) 3)) tr) e
      ∙ after_cross p l (2 * i) s (odd i) (even i) (omega arith) (omega arith) z u
      (net_pin seen (p ++ odd i ∷ even i ∷ l) (odd i) 3) (net_pin seen (p ++ odd i ∷ even i ∷ l) (even i) 3) refl refl refl
    where
      seen : ℕ → ℕ
      seen = left (top_of r h) (bottom_of r h) (r + (h + i))

      begun : (v : ℕ) → v ≢ 0 → v ≤ 2 * h → 0 < seen v
      begun v n o = omega (arith, left-second r h v n i (omega arith), ap bit (le-leb v (2 * h) o))

  -- after i of its columns
  second_half : (i j : ℕ) → i + j ≡ h → tracks_at (r + (h + i)) ≡ in_turn even even i 0 ++ in_turn odd even j i
  unfolding in_turn
  second_half zero j e =
      let a : r + (h + 0) ≡ r + h = omega arith in
      let b : h ≡ j = omega arith in
      ap tracks_at a ∙ first_half h 0 (omega arith) ∙ append-nil (in_turn odd even h 0) ∙ ap (λ (n : ℕ). in_turn odd even n 0) b
  second_half (suc i) j e =
      let a : r + (h + suc i) ≡ suc (r + (h + i)) = omega arith in
      ap tracks_at a
      ∙ end_step i (omega arith) (in_turn even even i 0) (in_turn odd even j (suc i)) (in_turn_length even even i 0)
      (in_turn_none even even (odd i) i 0 (λ n p q. (omega arith, omega arith)))
      (in_turn_none odd even (odd i) j (suc i) (λ n p q. (omega arith, omega arith)))
      (second_half i (suc j) (omega arith))
      ∙ in_turn_more even even i (in_turn odd even j (suc i))

  -- AFTER THEM no track is free
  last-full : times 0 (tracks_at (r + (h + h))) ≡ 0
  unfolding in_turn
  last-full =
      ap (times 0) (second_half h 0 (omega arith) ∙ append-nil (in_turn even even h 0))
      ∙ in_turn_none even even 0 h 0 (λ n p q. (omega arith, omega arith))

-- THE WIDTH
module _ (r h : ℕ) (short : r + (h + h) ≤ 256) where
  -- the channel's tracks are its density
  pub own_tracks : tracks (top_of r h) (bottom_of r h) ≡ 2 * h
  own_tracks = two_density (top_of r h) (bottom_of r h) (pairs r h short) ∙ dense r h short

  on : TwoPinOn (2 * h) (top_of r h) (bottom_of r h)
  on = record { fit = fit r h short; two = pairs r h short; dense = omega (arith, dense r h short) }

  enough : Enough (2 * h) (top_of r h) (bottom_of r h)
  enough = two_enough (2 * h) (top_of r h) (bottom_of r h) (pairs r h short) (omega (arith, dense r h short))

  -- no net has more than two strands, and no track is free in the last gap: h columns are added
  half_added : width (2 * h) (top_of r h) (bottom_of r h) ≡ length (top_of r h) + h
  unfolding width_by
  half_added =
      let n = length (top_of r h) in
      let g = gap (2 * h) (top_of r h) (bottom_of r h) n in
      let held = gaps (2 * h) (top_of r h) (bottom_of r h) (fit r h short) enough n (omega arith) in
      let two : (v : ℕ) → v ≢ 0 → times v g ≤ 2 = λ v z. omega (
        arith,
        held.few v z,
        left-right (top_of r h) (bottom_of r h) v n,
        two_fit (top_of r h) (bottom_of r h) (fit r h short) (pairs r h short) v (omega arith),
      ) in
      let same = gap_so_far_lem (2 * h) (top_of r h) (bottom_of r h) on n (omega arith) ∙ ap (gap_so_far (2 * h) (top_of r h) (bottom_of r h)) (columns r h) in
      omega (
        arith,
        ap (times 0) same,
        last-full r h,
        held.size,
        added-least g two (no_more (top_of r h) (bottom_of r h) (fit r h short) n g held),
        width_most (2 * h) (top_of r h) (bottom_of r h) (fit r h short) enough,
      )

  pub width_half : width (tracks (top_of r h) (bottom_of r h)) (top_of r h) (bottom_of r h) ≡ length (top_of r h) + h
  width_half = ap (λ (t : ℕ). width t (top_of r h) (bottom_of r h)) own_tracks ∙ half_added
