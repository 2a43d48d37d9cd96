-- Where the edge of each entry lies: the two points where it ends, and the edges that meet at a point.
use Prim.Native.Nat.{ℕ, zero, suc, ◌+◌, ◌*◌, ◌-◌, ◌/◌, ◌%◌, ◌≤◌, ◌<◌}
use mathlib.Core.Path.{◌≡◌, refl, sym, ◌∙◌, ap}
use mathlib.Core.Logic.{◌≢◌, by_cases}
use mathlib.Core.List.{List}
use lib.ListN.{length}
use lib.Dec.{leb}
use native.Mathlib.Omega.{arith}
use native.Mathlib.Decide.{dec_le}
use native.Mathlib.Nat.{mod-lt, div-add-mod', mul-le-mul_right}
use Rattle.grid.specs.Channel.{pick}
use Rattle.grid.specs.Grid.{Linked, here, up, across, vertical_of, horizontal_of}
use Rattle.grid.specs.Grid as G
use Rattle.grid.proofs.Tests.{le-leb, lt-leb}
use Rattle.grid.proofs.Counting.{at_below}
use Rattle.grid.proofs.Drawings.Flat.{vert_at, horz_at, column_of_lem, entry_of}
use Rattle.pieces.specs.Labels.{net_of, left_from}
use Rattle.pieces.proofs.Hooks.{In, head, later, Links}
use Rattle.pieces.proofs.Points.{edges, Touch}

-- an entry's edge ends at a point
pub data EndsAt (t p : ℕ) : ℕ → ℕ → Type 0 where
  foot : {x y : ℕ} → y ≤ t → p ≡ x * (2 * t + 1) + y → EndsAt t p x y
  top : {x y : ℕ} → y ≤ t → p ≡ x * (2 * t + 1) + y → EndsAt t p x (suc y)
  start : {x j : ℕ} → j < t → p ≡ x * (2 * t + 1) + t + 1 + j → EndsAt t p x (suc j)
  end : {x j : ℕ} → j < t → p ≡ x * (2 * t + 1) + t + 1 + j → EndsAt t p (suc x) (suc j)

-- the row of the first end of entry i of a column
home_row : (t i : ℕ) → ℕ
home_row t i = pick (leb i t) i (i - t)

-- the column of the first end of an entry's edge
pub home_x : (t p : ℕ) → ℕ
home_x t p = p / (2 * t + 1)

-- and its row
pub home_y : (t p : ℕ) → ℕ
home_y t p = home_row t (p % (2 * t + 1))

-- of a vertical entry
row_low : (t i : ℕ) → i ≤ t → home_row t i ≡ i
unfolding home_row
row_low t i l = rw (le-leb i t l)

-- and of a horizontal one
row-high : (t j : ℕ) → home_row t (t + 1 + j) ≡ suc j
unfolding home_row
row-high t j = rw (lt-leb (t + 1 + j) t (omega arith)) (omega arith)

-- each entry's edge ends at its first end
pub at_home : (t p : ℕ) → EndsAt t p (home_x t p) (home_y t p)
unfolding home_x home_y
at_home t p =
    by_cases (dec_le (p % (2 * t + 1)) t) (λ l. rw (row_low t (p % (2 * t + 1)) l) (foot l (sym (div-add-mod' p (2 * t + 1)))))
    (λ l. more (p % (2 * t + 1) - t - 1) (omega arith))
  where
    more : (j : ℕ) → p % (2 * t + 1) ≡ t + 1 + j → EndsAt t p (p / (2 * t + 1)) (home_row t (p % (2 * t + 1)))
    more j e =
        let l : j < t = omega (arith, mod-lt p {m = 2 * t + 1} (omega arith)) in
        let o : p ≡ p / (2 * t + 1) * (2 * t + 1) + t + 1 + j = omega (arith, div-add-mod' p (2 * t + 1)) in
        rw (e, row-high t j) (start l o)

-- the edges of two entries are linked in net N
unfoldable pub Meets : (D : List ℕ) (t N p q : ℕ) → Type 0
Meets D t N p q = Linked (vertical_of D t) (horizontal_of D t) N (home_x t p) (home_y t p) (home_x t q) (home_y t q)

-- links carry over
pub meets_links : (D : List ℕ) (t : ℕ) → Links (Meets D t)
unfolding Meets
meets_links D t = record { self = λ N p. here; back = λ N p q l. G.back l; join = λ N p q r l m. G.join l m }

-- an edge that is there stands in the list
pub inside : (D : List ℕ) (p : ℕ) → net_of D p ≢ 0 → p < length D
inside D p n = at_below D p (net_of D p) n refl

module _ (D : List ℕ) (t : ℕ) where
  -- an edge links its first end to each of its ends
  pub from_home : {p x y : ℕ} → EndsAt t p x y → Linked (vertical_of D t) (horizontal_of D t) (net_of D p) (home_x t p) (home_y t p) x y
  unfolding home_x home_y
  from_home {p} (foot {x} {y} l e) = rw (column_of_lem t p x y (omega arith) e, entry_of t p x y (omega arith) e, row_low t y l) here
  from_home {p} (top {x} {y} l e) =
      rw (column_of_lem t p x y (omega arith) e, entry_of t p x y (omega arith) e, row_low t y l) (up (vert_at D t x y l ∙ ap (net_of D) (sym e)))
  from_home {p} (start {x} {j} l e) =
      rw (column_of_lem t p x (t + 1 + j) (omega arith) (omega arith), entry_of t p x (t + 1 + j) (omega arith) (omega arith), row-high t j) here
  from_home {p} (end {x} {j} l e) =
      rw (column_of_lem t p x (t + 1 + j) (omega arith) (omega arith), entry_of t p x (t + 1 + j) (omega arith) (omega arith), row-high t j)
      (across (horz_at D t x j l ∙ ap (net_of D) (sym e)))

  -- in the net N of the entry
  from_home_in : (N : ℕ) {p x y : ℕ} → net_of D p ≡ N → EndsAt t p x y → Linked (vertical_of D t) (horizontal_of D t) N (home_x t p) (home_y t p) x y
  from_home_in N e a = rw (← e) (from_home a)

  -- the edges at an inner point are those of the list
  pub at_in : {p x j : ℕ} → EndsAt t p x (suc j) → j < t → In p (edges t (x * (2 * t + 1)) (left_from (length D) t x) j)
  unfolding left_from
  at_in {p} {x} {j} (foot l e) k = let o : p ≡ x * (2 * t + 1) + j + 1 = omega arith in later (head o)
  at_in {p} {x} {j} (top l e) k = later (later (later (head e)))
  at_in {p} {x} {j} (start l e) k = head e
  at_in {p} (end l e) k = later (later (head e))

  -- the left edge ends there
  left_at : (p x j : ℕ) → j < t → p ≡ left_from (length D) t x + j → net_of D p ≢ 0 → EndsAt t p x (suc j)
  unfolding left_from
  left_at p zero j k e n = absurd (omega (arith, inside D p n))
  left_at p (suc x) j k e n = end k e

  -- each of the list does
  in_at : (p x j : ℕ) → j < t → In p (edges t (x * (2 * t + 1)) (left_from (length D) t x) j) → net_of D p ≢ 0 → EndsAt t p x (suc j)
  in_at p x j k (head e) n = start k e
  in_at p x j k (later (head e)) n = let o : p ≡ x * (2 * t + 1) + suc j = omega arith in foot k o
  in_at p x j k (later (later (head e))) n = left_at p x j k e n
  in_at p x j k (later (later (later (head e)))) n = let l : j ≤ t = omega arith in top l e
  in_at p x j k (later (later (later (later i)))) n = elim i [ ]

  -- and those of one net are linked there
  pub touch : (x j : ℕ) → j < t → Touch (net_of D) (Meets D t) (edges t (x * (2 * t + 1)) (left_from (length D) t x) j)
  unfolding Meets
  touch x j k = record {
    near = λ e c i i' m n.
        G.join (from_home (in_at e x j k i n)) (G.back (from_home_in (net_of D e) (sym m) (in_at c x j k i' (λ z. n (m ∙ z)))));
  }

  -- the only edge at a point of the lowest row
  pub at_zero : {p x : ℕ} → EndsAt t p x 0 → p ≡ x * (2 * t + 1)
  at_zero (foot l e) = omega arith

  -- and of the highest
  pub at_top_lem : {p x j : ℕ} → EndsAt t p x (suc j) → t ≤ j → p ≡ x * (2 * t + 1) + t
  at_top_lem (foot l e) k = absurd (omega arith)
  at_top_lem (top l e) k = omega arith
  at_top_lem (start l e) k = absurd (omega arith)
  at_top_lem (end l e) k = absurd (omega arith)

  -- past the last column only edges from the left are there
  pub at_past : (w : ℕ) → length D ≤ w * (2 * t + 1) → {p x j : ℕ} → EndsAt t p x (suc j) → w ≤ x → net_of D p ≢ 0 → p ≡ left_from (length D) t x + j
  unfolding left_from
  at_past w size {p} (foot {x} l e) k n = absurd (omega (arith, inside D p n, mul-le-mul_right (2 * t + 1) k))
  at_past w size {p} (top {x} l e) k n = absurd (omega (arith, inside D p n, mul-le-mul_right (2 * t + 1) k))
  at_past w size {p} (start {x} l e) k n = absurd (omega (arith, inside D p n, mul-le-mul_right (2 * t + 1) k))
  at_past w size {p} (end {x} l e) k n = e
