-- The length of a net is how often its number stands among a drawing's entries; the lengths add up; what the checker's pass says of them. Assumes nothing.
use Prim.Native.Nat.{ℕ, zero, suc, ◌+◌, ◌*◌, ◌≤◌, ◌<◌}
use mathlib.Core.Path.{◌≡◌, refl, sym, ◌∙◌, ap, ap₂}
use mathlib.Core.Logic.{◌≢◌, ⊎_elim}
use mathlib.Core.Bool.{Bool, true, false, not}
use mathlib.Core.List.{List, [], ◌∷◌}
use native.Mathlib.Omega.{arith}
use lib.Dec.{eqb, ltb}
use lib.ListN.{length, get_or}
use Rattle.grid.specs.Channel.{bit, times, sum, over, pins, rows_refused}
use Rattle.grid.specs.Nets.{zero_table}
use Rattle.grid.specs.Refusals.{first_refusal}
use Rattle.grid.specs.Working.{ByNet}
use Rattle.grid.specs.Grid.{vertical_of, horizontal_of, Wiring}
use Rattle.grid.proofs.Tests.{Same, same, diff, same_by, eqb_diff, ltb-false, le-ltb, or_false}
use Rattle.grid.proofs.Counting.{zeros, none_times, small_in, sum_plus, sum_zero, sum_one}
use Rattle.grid.proofs.Sums.{sum_same}
use Rattle.grid.proofs.Tables.{zero_table-length}
use Rattle.grid.proofs.Views.{product_le}
use Rattle.grid.proofs.Rows.{rows_fit}
use Rattle.grid.proofs.Drawings.Flat.{vert_at, horz_at}
use Rattle.checker.specs.Check.{drawing_refused, refused}
use Rattle.checker.proofs.Answers.{check_parts}
use Rattle.checker.proofs.Passes.{passes_solutions, passed_number}
use Rattle.report.specs.declared.Drawing.TheVariants.{Absent, Given}
use Rattle.report.specs.declared.Drawing.{Drawing}
use Rattle.report.specs.Report.{length_in, drawing_number}
use Rattle.report.specs.Working.{Countable}
use Rattle.report.specs.Length.{entries_with, edges_in, edges_to, wire_length, edges_drawn}

-- COUNTED ENTRIES

-- counts over equally many entries are equal
entries_to : (f : ℕ → ℕ) (N k n : ℕ) → k ≡ n → entries_with f N k ≡ entries_with f N n
entries_to f N k n e = ap (entries_with f N) e

-- those from a on are counted after the first a
entries_cut : (f : ℕ → ℕ) (N a b : ℕ) → entries_with f N (a + b) ≡ entries_with f N a + entries_with (λ i. f (a + i)) N b
unfolding entries_with
entries_cut f N a zero = omega (arith, entries_to f N (a + 0) a (omega arith))
entries_cut f N a (suc b) = omega (arith, entries_to f N (a + suc b) (suc (a + b)) (omega arith), entries_cut f N a b)

-- the first is counted before the others
entries_first : (f : ℕ → ℕ) (N k : ℕ) → entries_with f N (suc k) ≡ bit (eqb (f 0) N) + entries_with (λ i. f (suc i)) N k
unfolding entries_with
entries_first f N zero = omega arith
entries_first f N (suc k) = omega (arith, entries_first f N k)

-- equal entries give equal counts
entries_same : (f g : ℕ → ℕ) (N k : ℕ) → ((i : ℕ) → i < k → f i ≡ g i) → entries_with f N k ≡ entries_with g N k
unfolding entries_with
entries_same f g N zero h = refl
entries_same f g N (suc k) h =
    ap₂ ◌+◌ (entries_same f g N k (λ i l. h i (omega arith))) (ap (λ (n : ℕ). bit (eqb n N)) (h k (omega arith)))

-- over a whole list they are how often N stands in it
entries_times : (D : List ℕ) (N : ℕ) → entries_with (λ i. get_or D i 0) N (length D) ≡ times N D
unfolding entries_with times
entries_times [] N = refl
entries_times (x ∷ xs) N = entries_first (λ i. get_or (x ∷ xs) i 0) N (length xs) ∙ ap (λ (n : ℕ). bit (eqb x N) + n) (entries_times xs N)

-- THE LENGTH OF A NET

module _ (D : List ℕ) (t N : ℕ) where
  -- the edges in column x are counted among its 2t + 1 entries
  edges_in_lem : (x : ℕ) → edges_in D t N x ≡ entries_with (λ i. get_or D (x * (2 * t + 1) + i) 0) N (2 * t + 1)
  unfolding edges_in
  edges_in_lem x =
      let f : ℕ → ℕ = λ i. get_or D (x * (2 * t + 1) + i) 0 in
      ap₂ ◌+◌
      (entries_same (vertical_of D t x) f N (t + 1) (λ y l. vert_at D t x y (omega arith)))
      (entries_same (horizontal_of D t x) (λ j. f (t + 1 + j)) N t
      (λ j l. horz_at D t x j l ∙ ap (λ (k : ℕ). get_or D k 0) (omega arith)))
      ∙ sym (entries_cut f N (t + 1) t) ∙ entries_to f N (t + 1 + t) (2 * t + 1) (omega arith)

  -- those in the first k columns among the entries of these
  edges_to_lem : (k : ℕ) → edges_to D t N k ≡ entries_with (λ i. get_or D i 0) N (k * (2 * t + 1))
  unfolding edges_to entries_with
  edges_to_lem zero = entries_to (λ i. get_or D i 0) N 0 (0 * (2 * t + 1)) (omega arith)
  edges_to_lem (suc k) =
      ap₂ ◌+◌ (edges_to_lem k) (edges_in_lem k)
      ∙ sym (entries_cut (λ i. get_or D i 0) N (k * (2 * t + 1)) (2 * t + 1))
      ∙ entries_to (λ i. get_or D i 0) N (k * (2 * t + 1) + (2 * t + 1)) (suc k * (2 * t + 1)) (omega arith)

-- the length of a net is how often its number stands among the entries
wire_times : (w t : ℕ) (D : List ℕ) (N : ℕ) → length D ≡ w * (2 * t + 1) → wire_length w t D N ≡ times N D
unfolding wire_length
wire_times w t D N s = edges_to_lem D t N w ∙ entries_to (λ i. get_or D i 0) N (w * (2 * t + 1)) (length D) (sym s) ∙ entries_times D N

-- LENGTHS IN A TABLE

-- without a drawing they are zeros
pub no_lengths : (D l : List ℕ) → l ≡ zero_table → ByNet (length_in Absent D) l
unfolding zero_table
no_lengths D l e = record { size = zero_table-length l e; at = λ v a b. rw e (zeros 257 v) }

-- in a drawing they are the counts of its entries
pub counted_lengths : (w t : ℕ) (D l : List ℕ) → length D ≡ w * (2 * t + 1) → ByNet (λ v. times v D) l → ByNet (length_in (Given w t) D) l
counted_lengths w t D l s h = record { size = h.size; at = λ v a b. h.at v a b ∙ sym (wire_times w t D v s) }

-- THE LENGTHS ADD UP

-- a number up to 256 is 0 or one of 1 to 256
among : (x : ℕ) → x ≤ 256 → sum (λ v. bit (eqb x v)) 256 ≡ bit (not (eqb x 0))
among x h = go (eqb x 0) (same_by x 0)
  where
    go : (q : Bool) → Same x 0 q → sum (λ v. bit (eqb x v)) 256 ≡ bit (not q)
    go true (same e) = sum_zero (λ v. bit (eqb x v)) 256 (λ v p. eqb_diff x (suc v) (omega arith))
    go false (diff n) = sum_one x 256 n h

-- each entry that is not 0 is counted for one of the numbers 1 to 256
times_add_up : (D : List ℕ) → over D ≡ false → sum (λ v. times v D) 256 ≡ edges_drawn D
unfolding over times edges_drawn
times_add_up [] e = sum_zero (λ v. 0) 256 (λ v p. refl)
times_add_up (x ∷ xs) e =
    let (a, b) = or_false (ltb 256 x) (over xs) e in
    sum_plus (λ v. bit (eqb x v)) (λ v. times v xs) 256 ∙ ap₂ ◌+◌ (among x (ltb-false 256 x a)) (times_add_up xs b)

-- the lengths of the numbers 1 to 256 add up to the number of entries that are not 0
pub lengths_add_up : (w t : ℕ) (D : List ℕ) → length D ≡ w * (2 * t + 1) → over D ≡ false → sum (wire_length w t D) 256 ≡ edges_drawn D
lengths_add_up w t D s o = sum_same (wire_length w t D) (λ v. times v D) 256 (λ v a b. wire_times w t D v s) ∙ times_add_up D o

-- DRAWINGS THAT THE CHECKER PASSES

-- a list whose entries are at most 256 holds none over 256
over_none : (l : List ℕ) → ((i : ℕ) → get_or l i 0 ≤ 256) → over l ≡ false
unfolding over
over_none [] h = refl
over_none (x ∷ xs) h = rw (le-ltb 256 x (h 0)) (over_none xs (λ i. h (suc i)))

module _ (top bottom : List ℕ) (w t : ℕ) (D : List ℕ) (rows : rows_refused top bottom 256 ≡ 0) (passed : drawing_refused top bottom w t D ≡ 0) where
  -- no refusal applies
  not_refused : refused top bottom w t D ≡ 0
  unfolding refused
  not_refused = ap (λ (k : ℕ). first_refusal k (drawing_refused top bottom w t D)) rows ∙ passed

  -- so it is a drawing of the channel within the limits
  drawn : (w ≤ 511) × (t ≤ 511) × Wiring top bottom w t D
  drawn =
      let (r, a, b, s) = (passes_solutions top bottom w t D).0 ((passed_number top bottom w t D).0 ((check_parts top bottom w t D).0 ∙ not_refused)) in
      (a, b, s.wiring)

  -- a number that is no net is no entry
  no_net : (v : ℕ) → v ≢ 0 → pins top bottom v ≡ 0 → times v D ≡ 0
  no_net v n p = none_times v D none
    where
      none : (j : ℕ) → j < length D → get_or D j 0 ≢ v
      none j l e =
          ⊎_elim
          (λ (z : get_or D j 0 ≡ 0). n (sym e ∙ z))
          (λ (z : 0 < pins top bottom (get_or D j 0)). omega (arith, ap (pins top bottom) e))
          (drawn.2.nets j l)

  -- a drawing that the checker passes has its size, within the limits, and holds no number over 256
  pub passed_countable : (length D ≡ w * (2 * t + 1)) × (length D ≤ 522753) × (over D ≡ false)
  passed_countable =
      let (a, b, s) = drawn in (
        s.size,
        omega (arith, s.size, product_le w (2 * t + 1) a (omega arith)),
        over_none D (small_in D (λ v l. no_net v (omega arith) ((rows_fit top bottom rows).small v l))),
      )

  -- a number that is no net has no edges in it
  pub no_net_no_length : (v : ℕ) → v ≢ 0 → pins top bottom v ≡ 0 → wire_length w t D v ≡ 0
  no_net_no_length v n p = wire_times w t D v passed_countable.0 ∙ no_net v n p

-- in what an accepted call is lent, lengths can be counted
pub countable : (top bottom : List ℕ) (drawing : Drawing) (D : List ℕ) → rows_refused top bottom 256 ≡ 0 → drawing_number top bottom drawing D ≡ 0 → Countable drawing D
countable top bottom Absent D e z = tt
countable top bottom (Given w t) D e z = passed_countable top bottom w t D e z
