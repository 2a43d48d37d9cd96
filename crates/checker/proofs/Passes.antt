-- The checker passes exactly the solutions: `passes_solutions`.
use Prim.Native.Nat.{ℕ, suc, ◌+◌, ◌*◌, ◌/◌, ◌%◌, ◌≤◌, ◌<◌}
use mathlib.Core.Path.{◌≡◌, refl, sym, ◌∙◌, ap}
use mathlib.Core.Logic.{◌≢◌, ◌↔◌, ◌⊎◌, ⊎_elim, by_cases}
use mathlib.Core.Bool.{false}
use mathlib.Core.List.{List}
use lib.ListN.{length, get_or}
use lib.Dec.{eqb, ltb}
use native.Mathlib.Omega.{arith}
use native.Mathlib.Decide.{dec_le, dec_lt}
use native.Mathlib.Nat.{mod-lt, div-add-mod', mul-le-mul_right}
use Rattle.grid.specs.Channel.{bit, pins, rows_refused}
use Rattle.grid.specs.Grid.{OnePiece, NoLooseEnd, vertical_of, horizontal_of, Wiring, Solution}
use Rattle.grid.proofs.Tests.{eq-eqb, eqb_diff, eqb-true, le-ltb, ltb-false, not-false, or_false, pick_past}
use Rattle.grid.proofs.Answers.{first_past}
use Rattle.grid.proofs.Rows.{RowsFit, rows_fit}
use Rattle.std.specs.Prelude.{Ok}
use Rattle.checker.specs.Check.{number_of, some, wrong_width, many_tracks, wrong_size, strange, mispinned, leaves_last, split, loose_net}
use Rattle.checker.specs.Check.{pin_fault, first_mispinned, entries_refused, drawing_refused, refused, checked}
use Rattle.checker.specs.Working.{answer_with}
use Rattle.pieces.specs.Labels.{net_of, left_from}
use Rattle.grid.proofs.Drawings.Flat.{vert_at, horz_at, horz_out}
use Rattle.pieces.proofs.Edges.{inside}
use Rattle.pieces.proofs.Whole.{Edge, edge, edge_of}
use Rattle.checker.proofs.Answers.{check_parts}
use Rattle.checker.proofs.Least.{none_of, of_none}
use Rattle.checker.proofs.entries.Nets.{strange_not, not_strange}
use Rattle.checker.proofs.Limits.{column_below}
use Rattle.checker.proofs.entries.Pins.{pinned_at, at_pinned}
use Rattle.checker.proofs.Terminals.{fault_not_zero}
use Rattle.checker.proofs.entries.Last.{last_zero, zero_last}
use Rattle.checker.proofs.counting.Splits.{split_not, not_split}
use Rattle.checker.proofs.ends.Tests.{not_loose, loose_not, no_loose, loose_none, edges_at_lem}

-- no refusal of the table applies
record Fine (top bottom : List ℕ) (w t : ℕ) (D : List ℕ) : Type 0 where
  rows : rows_refused top bottom 256 ≡ 0
  width : wrong_width top w ≡ false
  tracks : many_tracks t ≡ false
  size : wrong_size w t D ≡ false
  entry : some (length D) (strange top bottom D) ≡ false
  pin : some (length D) (mispinned top bottom t D) ≡ false
  last : some (length D) (leaves_last w t D) ≡ false
  piece : some 257 (split t D) ≡ false
  ends : some 257 (loose_net w t D) ≡ false

-- then the number is 0
fine_zero : (top bottom : List ℕ) (w t : ℕ) (D : List ℕ) → Fine top bottom w t D → refused top bottom w t D ≡ 0
unfolding refused drawing_refused entries_refused
fine_zero top bottom w t D f = rw (f.rows, f.width, f.tracks, f.size, f.entry, f.pin, f.last, f.piece, f.ends)

-- the numbers of the table are not 0
positive : (k : ℕ) → suc k ≢ 0
positive k = omega arith

-- and back
zero_fine : (top bottom : List ℕ) (w t : ℕ) (D : List ℕ) → refused top bottom w t D ≡ 0 → Fine top bottom w t D
unfolding refused drawing_refused entries_refused
zero_fine top bottom w t D e =
    let (f₀, e₀) = first_past (rows_refused top bottom 256) _ e in
    let (f₁, e₁) = pick_past _ 10 _ 0 (positive 9) e₀ in
    let (f₂, e₂) = pick_past _ 11 _ 0 (positive 10) e₁ in
    let (f₃, e₃) = pick_past _ 12 _ 0 (positive 11) e₂ in
    let (f₄, e₄) = pick_past _ 13 _ 0 (positive 12) e₃ in
    let (f₅, e₅) = pick_past _ (pin_fault top bottom t D (first_mispinned top bottom t D)) _ 0 (fault_not_zero top bottom t D _) e₄ in
    let (f₆, e₆) = pick_past _ 15 _ 0 (positive 14) e₅ in
    let (f₇, e₇) = pick_past _ 16 _ 0 (positive 15) e₆ in
    let (f₈, e₈) = pick_past _ 17 _ 0 (positive 16) e₇ in
    record { rows = f₀; width = f₁; tracks = f₂; size = f₃; entry = f₄; pin = f₅; last = f₆; piece = f₇; ends = f₈ }

-- NUMBERS OVER 256, of accepted rows and entries that are 0 or nets
module _
    (top bottom : List ℕ) (t : ℕ) (D : List ℕ) (fit : RowsFit top bottom)
    (nets : (p : ℕ) → p < length D → (get_or D p 0 ≡ 0) ⊎ (0 < pins top bottom (get_or D p 0))) (N : ℕ) (l : 256 < N)
  where
    -- it is no entry
    no_entry : (p : ℕ) → net_of D p ≢ N
    no_entry p e =
        let s = fit.small (get_or D p 0) (omega arith) in
        ⊎_elim (λ (z : get_or D p 0 ≡ 0). omega arith) (λ (z : 0 < pins top bottom (get_or D p 0)). omega arith) (nets p (inside D p (omega arith)))

    -- so it is one piece
    pub over_whole : OnePiece (vertical_of D t) (horizontal_of D t) N
    over_whole = record { linked = λ a b. absurd (no_edge (edge_of D t (omega arith) a)) }
      where
        no_edge : {x y : ℕ} → Edge D t N x y → ⊥
        no_edge (edge p a e) = no_entry p e

    -- and has no loose end
    pub over_ends : (w : ℕ) → NoLooseEnd (vertical_of D t) (horizontal_of D t) w t N
    over_ends w x j i k e =
        let none : (p : ℕ) → bit (eqb (net_of D p) N) ≡ 0 = λ p. eqb_diff (net_of D p) N (no_entry p) in
        let b = x * (2 * t + 1) in
        let q = left_from (length D) t x in
        omega (arith, sym (edges_at_lem D t N x j b q k refl refl) ∙ e, none (b + j), none (b + j + 1), none (q + j), none (b + t + 1 + j))

module _ (top bottom : List ℕ) (w t : ℕ) (D : List ℕ) where
  module _ (f : Fine top bottom w t D) where
    size_is : length D ≡ w * (2 * t + 1)
    size_is = eqb-true (length D) (w * (2 * t + 1)) (not-false (eqb (length D) (w * (2 * t + 1))) f.size)

    -- every entry is 0 or a net
    nets_are : (p : ℕ) → p < length D → (get_or D p 0 ≡ 0) ⊎ (0 < pins top bottom (get_or D p 0))
    nets_are p l =
        strange_not top bottom D p
        (of_none (length D) (strange top bottom D) f.entry p l)

    -- the pins of column x are right
    pins_are :
        (x i : ℕ) → x < w → i < 2 * t + 1
        → (i ≡ 0 → get_or D (x * (2 * t + 1) + i) 0 ≡ get_or bottom x 0) × (i ≡ t → get_or D (x * (2 * t + 1) + i) 0 ≡ get_or top x 0)
    pins_are x i l k =
        at_pinned top bottom t D (x * (2 * t + 1) + i) x i k refl
        (of_none (length D) (mispinned top bottom t D) f.pin
        (x * (2 * t + 1) + i) (omega (arith, size_is, mul-le-mul_right (2 * t + 1) l)))

    -- the last column has no horizontal edge
    last_is : (x j : ℕ) → suc x ≡ w → horizontal_of D t x j ≡ 0
    last_is x j e =
        let m : suc x * (2 * t + 1) ≡ w * (2 * t + 1) = ap (λ (k : ℕ). k * (2 * t + 1)) e in
        by_cases (dec_lt j t)
        (λ l.
        horz_at D t x j l
        ∙ last_zero w t D x j e l
        (of_none (length D) (leaves_last w t D) f.last
        (x * (2 * t + 1) + t + 1 + j) (omega (arith, size_is))))
        (λ l. horz_out D t x j (omega arith))

    -- each net is one piece
    whole : (N : ℕ) → N ≢ 0 → OnePiece (vertical_of D t) (horizontal_of D t) N
    whole N n =
        by_cases (dec_le N 256)
        (λ l. split_not t D N n (of_none 257 (split t D) f.piece N (omega arith)))
        (λ l. over_whole top bottom t D (rows_fit top bottom f.rows) nets_are N (omega arith))

    -- no net has a loose end
    no_ends : (N : ℕ) → N ≢ 0 → NoLooseEnd (vertical_of D t) (horizontal_of D t) w t N
    no_ends N n x j l k =
        by_cases (dec_le N 256)
        (λ m. loose_not t D N x j n (loose_none w t D N (of_none 257 (loose_net w t D) f.ends N (omega arith)) x j l k))
        (λ m. over_ends top bottom t D (rows_fit top bottom f.rows) nets_are N (omega arith) w x j l k)

    -- so the drawing is a solution within the limits
    fine_solution : (rows_refused top bottom 256 ≡ 0) × (w ≤ 511) × (t ≤ 511) × Solution top bottom w t D
    fine_solution =
        let (narrow, few) = or_false (ltb w (length top)) (ltb 511 w) f.width in (
          f.rows,
          ltb-false 511 w few,
          ltb-false 511 t f.tracks,
          record {
            wiring = record {
              size = size_is;
              covers = ltb-false w (length top) narrow;
              nets = nets_are;
              bottom_pins = λ x l. vert_at D t x 0 (omega arith) ∙ (pins_are x 0 l (omega arith)).0 refl;
              top_pins = λ x l. vert_at D t x t (omega arith) ∙ (pins_are x t l (omega arith)).1 refl;
              last = last_is;
              pieces = whole;
            };
            ends = no_ends;
          },
        )

  module _ (s : Solution top bottom w t D) where
    -- without its ends
    abbrev S : Wiring top bottom w t D
    S = s.wiring

    -- every position has the pins of its column
    all_pinned : (p : ℕ) → p < length D → mispinned top bottom t D p ≡ false
    all_pinned p l =
        let x = p / (2 * t + 1) in
        let i = p % (2 * t + 1) in
        let e : x * (2 * t + 1) + i ≡ p = div-add-mod' p (2 * t + 1) in
        let k : x < w = column_below w t x i (omega (arith, S.size)) in
        pinned_at top bottom t D p x i (mod-lt p {m = 2 * t + 1} (omega arith)) (sym e)
        (λ o. ap (net_of D) (omega arith) ∙ sym (vert_at D t x 0 (omega arith)) ∙ S.bottom_pins x k)
        (λ o. ap (net_of D) (omega arith) ∙ sym (vert_at D t x t (omega arith)) ∙ S.top_pins x k)

    -- so no refusal applies
    solution_fine : rows_refused top bottom 256 ≡ 0 → w ≤ 511 → t ≤ 511 → Fine top bottom w t D
    solution_fine r a b = record {
      rows = r;
      width = rw (le-ltb w (length top) S.covers) (le-ltb 511 w a);
      tracks = le-ltb 511 t b;
      size = rw (eq-eqb (length D) (w * (2 * t + 1)) S.size);
      entry = none_of (length D) (strange top bottom D) (λ p l. not_strange top bottom D p (S.nets p l));
      pin = none_of (length D) (mispinned top bottom t D) all_pinned;
      last = none_of (length D) (leaves_last w t D) (λ p l. zero_last w t D (λ x j e k. sym (horz_at D t x j k) ∙ S.last x j e) p);
      piece = none_of 257 (split t D) (λ N l. not_split t D N (S.pieces N));
      ends = none_of 257 (loose_net w t D) (λ N l. no_loose w t D N (λ x j i k. not_loose t D N x j (λ n. s.ends N n x j i k)));
    }

  -- the number is 0 precisely when the rows are accepted, w and t are at most 511 and the drawing is a solution
  zero_passes : (refused top bottom w t D ≡ 0) ↔ ((rows_refused top bottom 256 ≡ 0) × (w ≤ 511) × (t ≤ 511) × Solution top bottom w t D)
  zero_passes = (
    λ e. fine_solution (zero_fine top bottom w t D e),
    λ (r, a, b, S). fine_zero top bottom w t D (solution_fine S r a b),
  )

  -- only a drawing that passes has the number 0
  pub passed_number : (number_of (checked top bottom w t D) ≡ 0) ↔ (checked top bottom w t D ≡ Ok tt)
  unfolding checked
  passed_number = (
    λ e.
        let z : refused top bottom w t D ≡ 0 = sym (check_parts top bottom w t D).0 ∙ e in
        ap (λ (k : ℕ). answer_with top bottom w t D k) z,
    λ e. ap number_of e,
  )

  -- so the checker passes a drawing precisely then
  pub passes_solutions : (checked top bottom w t D ≡ Ok tt) ↔ ((rows_refused top bottom 256 ≡ 0) × (w ≤ 511) × (t ≤ 511) × Solution top bottom w t D)
  passes_solutions = (
    λ e. zero_passes.0 (sym (check_parts top bottom w t D).0 ∙ ap number_of e),
    λ s. passed_number.0 ((check_parts top bottom w t D).0 ∙ zero_passes.1 s),
  )
