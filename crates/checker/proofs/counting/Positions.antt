-- A column in its drawing: where its edges stand, and that positions and nets are small.
use Prim.Native.Nat.{ℕ, zero, suc, ◌+◌, ◌*◌, ◌/◌, ◌≤◌, ◌<◌}
use mathlib.Core.Path.{◌≡◌, refl, sym, ◌∙◌, ap}
use mathlib.Core.List.{List}
use lib.ListN.{length}
use native.Mathlib.Omega.{arith}
use native.Mathlib.Numerals.{add-one}
use Rattle.pieces.specs.Labels.{left_from}
use Rattle.pieces.proofs.Alone.{Left, left_of_lem}
use Rattle.checker.specs.declared.points.Column.{Column}
use Rattle.checker.specs.Working.{Within, ColumnAt, ColumnIs}
use Rattle.checker.proofs.Limits.{few_entries, index_of, column_inside}

-- a column of the code
abbrev pub column_at : (s : Column) → ColumnAt s.layout.now s.t s.b s.q
column_at s = record { w = s.w; x = s.x; within = s.within; below = s.inside; base = s.base; before = s.before }

-- with its number
pub column_is : (s : Column) → ColumnIs s.layout.now s.t s.x s.b s.q
column_is s = record { column = column_at s; number = refl }

-- where the horizontal entries of the column before the first begin
pub left_from_zero : (n t : ℕ) → left_from n t 0 ≡ n
unfolding left_from
left_from_zero n t = refl

-- and of the column before any other
pub left_from_suc : (n t x : ℕ) → left_from n t (suc x) ≡ x * (2 * t + 1) + t + 1
unfolding left_from
left_from_suc n t x = refl

-- a drawing within the limits is short
pub within_short : (D : List ℕ) (w t : ℕ) → Within D w t → length D ≤ 511 * 1023
within_short D w t d = omega (arith, d.size, few_entries w t d.width_fits d.high)

module _ (D : List ℕ) (t b q : ℕ) (C : ColumnAt D t b q) where
  -- the column lies within the drawing
  pub room : b + 2 * t + 1 ≤ length D
  room = omega (arith, column_inside C.w t C.x b (length D) C.below C.base C.within.size)

  -- positions are small
  pub short : length D ≤ 511 * 1023
  short = within_short D C.w t C.within

  -- so is that of the left edges
  left_small : q ≤ length D
  left_small = go C.x C.base C.before
    where
      go : (x : ℕ) → b ≡ x * (2 * t + 1) → q ≡ left_from (length D) t x → q ≤ length D
      go zero e o = omega (arith, left_from_zero (length D) t)
      go (suc x) e o = omega (arith, left_from_suc (length D) t x, room)

  -- the left edges are of an earlier column
  pub left_is : Left (length D) t b q
  left_is = rw (C.base, C.before) (left_of_lem (length D) t C.x)

  -- the number of the column
  pub index : b / (2 * t + 1) ≡ C.x
  index = index_of t b C.x C.base

  module _ (j : ℕ) (row : j < t) where
    -- the position of the right edge fits
    pub small_right : b + t + 1 + j < 1000000
    small_right = omega (arith, room, short)

    -- and that of the left one
    pub small_left : q + j < 1000000
    small_left = omega (arith, left_small, short, C.within.high)

-- x columns are passed, and b and q are the positions of the next
pub record NextColumn (D : List ℕ) (w t x b q : ℕ) : Type 0 where
  pub below : x ≤ w
  pub base : b ≡ x * (2 * t + 1)
  pub before : q ≡ left_from (length D) t x

-- none at first
pub next_start : (D : List ℕ) (w t : ℕ) → NextColumn D w t 0 0 (length D)
next_start D w t = record { below = omega arith; base = omega arith; before = sym (left_from_zero (length D) t) }

module _ (D : List ℕ) (w t x b q : ℕ) (d : Within D w t) (p : NextColumn D w t x b q) (l : x < w) where
  -- the next is a column of the drawing
  unfoldable pub next_column : ColumnAt D t b q
  next_column = record { w = w; x = x; within = d; below = l; base = p.base; before = p.before }

  -- its positions are small
  pub next_small : b + 2 * t + 1 ≤ 1000000
  next_small = omega (arith, room D t b q next_column, short D t b q next_column)

  -- and the one after it
  pub next_after : NextColumn D w t (x + 1) (b + 2 * t + 1) (b + t + 1)
  next_after =
      rw (add-one x)
      (record {
        below = l;
        base = omega (arith, p.base);
        before = sym (left_from_suc (length D) t x ∙ ap (λ (k : ℕ). k + t + 1) (sym p.base));
      })
