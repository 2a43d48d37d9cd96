-- The counts stored on a board. Assumes nothing.
use Prim.Native.Nat.{ℕ, zero, suc, ◌+◌, ◌-◌, ◌≤◌, ◌<◌, min, max}
use mathlib.Core.Path.{◌≡◌, refl, sym, ap, ap₂, ◌∙◌}
use mathlib.Core.Logic.{◌⊎◌, ⊎_elim, ◌≢◌}
use mathlib.Core.Bool.{Bool, true, false, ◌&&◌}
use mathlib.Core.List.{List, ◌++◌}
use native.Mathlib.Omega.{arith}
use native.Mathlib.Decide.{dec_lt}
use lib.Dec.{ltb}
use lib.ListN.{length, get_or, take, replicate, length-replicate, replicate-append-replicate, drop_of_length-le, get_or-eq_default}
use lib.Seq.{ext_get_or}
use Rattle.grid.specs.Channel.{pick, bit, times, count, pins, left, right, is_open, open_at, largest, density}
use Rattle.grid.specs.Places.{padded, no_row}
use Rattle.grid.proofs.Tests.{lt-ltb, le-ltb, and_none, Below, below, above, below_by}
use Rattle.grid.proofs.Counting.{none_times, zeros, sum_zero}
use Rattle.grid.proofs.Rows.{left-right, open_sides, open_density}
use Rattle.grid.proofs.Tables.{length_from, from_at}
use Rattle.grid.proofs.OpenNets.{none_open}
use Rattle.board.specs.Changes.{Channel, empty_channel}
use Rattle.board.specs.Board.{Board, board_with, counts_of, board_of, StandsFor, board_refused, start_channel, gap_count}
use Rattle.std.specs.List.{fold}
use Rattle.std.proofs.lemmas.List.Sums.{fold_more}
use native.Mathlib.Numerals.{add-one}

-- THE COUNTS OF A CHANNEL

-- they have 256 places
pub counts_length : (ch : Channel) → length (counts_of ch) ≡ 256
unfolding counts_of
counts_length ch = length_from (open_at ch.top ch.bottom) 0 256

-- with the count at gap g at place g
pub counts_at : (ch : Channel) (g : ℕ) → g < 256 → get_or (counts_of ch) g 0 ≡ open_at ch.top ch.bottom g
unfolding counts_of
counts_at ch g h = from_at (open_at ch.top ch.bottom) 0 256 g h ∙ ap (open_at ch.top ch.bottom) (omega arith)

-- and are the only such list
pub counts_by : (ch : Channel) (l : List ℕ) → length l ≡ 256 → ((g : ℕ) → g < 256 → get_or l g 0 ≡ open_at ch.top ch.bottom g) → l ≡ counts_of ch
counts_by ch l e h = ext_get_or 0 l (counts_of ch) (e ∙ sym (counts_length ch)) (λ g b. h g (omega arith) ∙ sym (counts_at ch g (omega arith)))

-- the largest of them: place 0 holds 0
largest_stored : (ch : Channel) (k : ℕ) → k < 256 → fold max 0 (take (k + 1) (counts_of ch)) ≡ largest ch.top ch.bottom k
unfolding largest
largest_stored ch zero h =
    fold_more max 0 (counts_of ch) 0 0 (omega (arith, counts_length ch)) ∙ ap (max 0) (counts_at ch 0 (omega arith) ∙ none_open ch.top ch.bottom)
largest_stored ch (suc k) h =
    fold_more max 0 (counts_of ch) (suc k) 0 (omega (arith, counts_length ch))
    ∙ ap₂ max (ap (λ (n : ℕ). fold max 0 (take n (counts_of ch))) (sym (add-one k)) ∙ largest_stored ch k (omega arith)) (counts_at ch (suc k) h)

-- those of n columns
largest_of : (ch : Channel) (n : ℕ) → n ≤ 256 → fold max 0 (take n (counts_of ch)) ≡ largest ch.top ch.bottom (n - 1)
unfolding largest
largest_of ch zero h = refl
largest_of ch (suc k) h =
    let e : k ≡ suc k - 1 = omega arith in
    ap (λ (n : ℕ). fold max 0 (take n (counts_of ch))) (sym (add-one k)) ∙ largest_stored ch k (omega arith) ∙ ap (largest ch.top ch.bottom) e

-- GAPS WITH NO OPEN NET

-- a gap where no net has pins on both sides
open_none : (top bottom : List ℕ) (c : ℕ) → ((v : ℕ) → v ≢ 0 → 0 < left top bottom c v → 0 < right top bottom c v → ⊥) → open_at top bottom c ≡ 0
unfolding open_at count
open_none top bottom c h = sum_zero (λ v. bit (is_open top bottom c v)) 256 (λ v p. go (suc v) (omega arith) (is_open top bottom c (suc v)) refl)
  where
    go : (v : ℕ) → v ≢ 0 → (q : Bool) → is_open top bottom c v ≡ q → bit q ≡ 0
    go v n true e = let (a, b) = open_sides top bottom c v e in absurd (h v n a b)
    go v n false e = refl

-- no pin stands past the ends of the rows
right_past : (top bottom : List ℕ) (c v : ℕ) → length top ≤ c → length bottom ≤ c → right top bottom c v ≡ 0
unfolding right times
right_past top bottom c v p q = rw (drop_of_length-le top {i = c} p, drop_of_length-le bottom {i = c} q)

-- so no net is open there
open_past : (top bottom : List ℕ) (c : ℕ) → length top ≤ c → length bottom ≤ c → open_at top bottom c ≡ 0
open_past top bottom c p q = open_none top bottom c (λ v n a b. let e = right_past top bottom c v p q in omega arith)

-- THE COUNT AT A GAP

-- 0 outside the gaps
pub gap_outside : (ch : Channel) (gap : ℕ) → (gap ≡ 0) ⊎ (length ch.top ≤ gap) → gap_count ch gap ≡ 0
gap_outside ch gap h = ap (λ (q : Bool). pick q (open_at ch.top ch.bottom gap) 0) (⊎_elim low high h)
  where
    low : gap ≡ 0 → (ltb 0 gap && ltb gap (length ch.top)) ≡ false
    low e = rw (le-ltb 0 gap (omega arith))

    high : length ch.top ≤ gap → (ltb 0 gap && ltb gap (length ch.top)) ≡ false
    high l = and_none (ltb 0 gap) (ltb gap (length ch.top)) (le-ltb gap (length ch.top) l)

-- it is that of the nets open there, also outside
pub gap-count : (ch : Channel) → length ch.top ≡ length ch.bottom → (gap : ℕ) → gap_count ch gap ≡ open_at ch.top ch.bottom gap
gap-count ch s gap = go (ltb 0 gap) (ltb gap (length ch.top)) (below_by 0 gap) (below_by gap (length ch.top))
  where
    go : (q w : Bool) → Below 0 gap q → Below gap (length ch.top) w
        → pick (q && w) (open_at ch.top ch.bottom gap) 0 ≡ open_at ch.top ch.bottom gap
    go true true a b = refl
    go true false a (above l) = sym (open_past ch.top ch.bottom gap l (omega arith))
    go false w (above l) b = let z : gap ≡ 0 = omega arith in sym (ap (open_at ch.top ch.bottom) z ∙ none_open ch.top ch.bottom)

-- A CHANNEL'S DENSITY is the largest of its counts

-- it is one of them
largest_one : (top bottom : List ℕ) (k : ℕ) → (c : ℕ) × (c ≤ k) × (open_at top bottom c ≡ largest top bottom k)
unfolding largest
largest_one top bottom zero = (0, omega arith, none_open top bottom)
largest_one top bottom (suc k) = go (dec_lt (open_at top bottom (suc k)) (largest top bottom k)) (largest_one top bottom k)
  where
    go : Dec (open_at top bottom (suc k) < largest top bottom k) → (c : ℕ) × (c ≤ k) × (open_at top bottom c ≡ largest top bottom k)
        → (c : ℕ) × (c ≤ suc k) × (open_at top bottom c ≡ max (largest top bottom k) (open_at top bottom (suc k)))
    go (yes h) (c, p, e) = (c, omega arith, omega (arith, e))
    go (no h) r = (suc k, omega arith, omega arith)

pub density_stored : (ch : Channel) → length ch.top ≤ 256 → (g : ℕ) × (get_or (counts_of ch) g 0 ≡ density ch.top ch.bottom)
unfolding density
density_stored ch h =
    let (g, p, e) = largest_one ch.top ch.bottom (length ch.top - 1) in
    (g, counts_at ch g (omega arith) ∙ e)

-- and none is more
pub density_above : (ch : Channel) → length ch.top ≡ length ch.bottom → (g : ℕ) → get_or (counts_of ch) g 0 ≤ density ch.top ch.bottom
density_above ch s g = go (dec_lt g 256)
  where
    inside : (q : Bool) → Below 0 g q → (r : Bool) → Below g (length ch.top) r
        → pick (q && r) (open_at ch.top ch.bottom g) 0 ≤ density ch.top ch.bottom
    inside true (below p) true (below l) = open_density ch.top ch.bottom g (omega arith) p (omega arith)
    inside true p false l = omega arith
    inside false p r l = omega arith

    go : Dec (g < 256) → get_or (counts_of ch) g 0 ≤ density ch.top ch.bottom
    go (yes h) =
        omega (arith, counts_at ch g h, gap-count ch s g, inside (ltb 0 g) (below_by 0 g) (ltb g (length ch.top)) (below_by g (length ch.top)))
    go (no h) = omega (arith, get_or-eq_default (counts_of ch) 0 {n = g} (omega (arith, counts_length ch)))

-- THE BOARD OF A CHANNEL

-- its parts
module _ (x : Board) (ch : Channel) (e : x ≡ board_of ch) where
  pub columns_of_lem : x.columns ≡ length ch.top
  unfolding board_of
  columns_of_lem = ap (λ (y : Board). y.columns) e

  pub top_of : x.top ≡ padded ch.top
  unfolding board_of
  top_of = ap (λ (y : Board). y.top) e

  pub bottom_of_lem : x.bottom ≡ padded ch.bottom
  unfolding board_of
  bottom_of_lem = ap (λ (y : Board). y.bottom) e

  pub counts_of_lem : x.counts ≡ counts_of ch
  unfolding board_of
  counts_of_lem = ap (λ (y : Board). y.counts) e

-- with these parts it is that board
pub board_by : (ch : Channel) (columns : ℕ) (top bottom counts : List ℕ)
    → columns ≡ length ch.top → top ≡ padded ch.top → bottom ≡ padded ch.bottom → counts ≡ counts_of ch
    → board_with columns top bottom counts ≡ board_of ch
unfolding board_of
board_by ch columns top bottom counts p q r s = cc

-- what is read of a board, n being the columns held
module _ (ch : Channel) (x : Board) (h : StandsFor ch x) (n : ℕ) (en : n ≡ min x.columns 256) where
  -- they are the channel's
  pub held_columns : n ≡ length ch.top
  held_columns = omega (arith, columns_of_lem x ch h.board, h.short)

  -- the largest stored count is the density
  pub stored_density : fold max 0 (take n x.counts) ≡ density ch.top ch.bottom
  unfolding density
  stored_density =
      ap₂ (λ (l : List ℕ) (k : ℕ). fold max 0 (take k l)) (counts_of_lem x ch h.board) held_columns ∙ largest_of ch (length ch.top) h.short

  -- a stored count is that of its gap
  pub stored_count : (gap : ℕ) → gap < n → get_or x.counts gap 0 ≡ gap_count ch gap
  stored_count gap p =
      ap (λ (l : List ℕ). get_or l gap 0) (counts_of_lem x ch h.board)
      ∙ counts_at ch gap (omega (arith, held_columns, h.short)) ∙ sym (gap-count ch h.same gap)

-- THE EMPTY CHANNEL

-- it has no pin
pub empty_pins : (n v : ℕ) → v ≢ 0 → pins (replicate n 0) (replicate n 0) v ≡ 0
unfolding pins
empty_pins n v z = let e = none_times v (replicate n 0) (λ j b y. z (sym y ∙ zeros n j)) in omega arith

-- its rows are zeros
empty_row : (n : ℕ) → n ≤ 256 → no_row ≡ padded (replicate n 0)
unfolding no_row padded
empty_row n h =
    let e : n + (256 - n) ≡ 256 = omega arith in
    sym (ap (λ (k : ℕ). replicate n 0 ++ replicate (256 - k) 0) (length-replicate {A = ℕ} n 0)
    ∙ replicate-append-replicate n (256 - n) 0 ∙ ap (λ (k : ℕ). replicate k 0) e)

-- and so are its counts
empty_counts : (n : ℕ) → no_row ≡ counts_of (empty_channel n)
unfolding no_row empty_channel
empty_counts n =
    counts_by (record { top = replicate n 0; bottom = replicate n 0 }) (replicate 256 0) (length-replicate {A = ℕ} 256 0)
    (λ g q. zeros 256 g ∙ sym (open_none (replicate n 0) (replicate n 0) g
    (λ v z a b. let s = left-right (replicate n 0) (replicate n 0) v g in let e = empty_pins n v z in omega arith)))

-- zeros in all places stand for it
empty_board : (n : ℕ) (top bottom counts : List ℕ) → n ≤ 256 → top ≡ no_row → bottom ≡ no_row → counts ≡ no_row
    → board_with n top bottom counts ≡ board_of (empty_channel n)
unfolding empty_channel
empty_board n top bottom counts h t b k =
    board_by (empty_channel n) n top bottom counts (sym (length-replicate {A = ℕ} n 0)) (t ∙ empty_row n h) (b ∙ empty_row n h) (k ∙ empty_counts n)

-- so begins a board of n columns, and one without columns where n is refused
module _ (n : ℕ) (top bottom counts : List ℕ) (t : top ≡ no_row) (b : bottom ≡ no_row) (k : counts ≡ no_row) where
  pub start_made : n ≤ 256 → (0 ≡ board_refused n) × (board_with n top bottom counts ≡ board_of (start_channel n))
  start_made h = rw (le-ltb 256 n h) (refl, empty_board n top bottom counts h t b k)

  pub start_too_wide : 256 < n → (5 ≡ board_refused n) × (board_with 0 top bottom counts ≡ board_of (start_channel n))
  start_too_wide h = rw (lt-ltb 256 n h) (refl, empty_board 0 top bottom counts (omega arith) t b k)
