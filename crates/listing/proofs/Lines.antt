-- The steps of the writers: what is put grows to the definition, and there is room for each step. Assumes nothing.
use Prim.Native.Nat.{ℕ, suc, ◌+◌, ◌*◌, ◌/◌, ◌%◌, ◌≤◌, ◌<◌}
use native.Mathlib.Omega.{arith}
use native.Mathlib.Numerals.{add-one}
use native.Mathlib.Nat.{zero-add}
use mathlib.Core.Path.{◌≡◌, ap, ap₂, sym, subst, ◌∙◌}
use mathlib.Core.List.{List, [], ◌∷◌, ◌++◌}
use lib.ListN.{get_or, take, drop, length-append}
use Rattle.record.specs.declared.writing.Writer.{Writer}
use Rattle.record.specs.Writing.{Room, Puts}
use Rattle.record.proofs.Put.{put_then, put_as, step_room}
use Rattle.listing.specs.Digits.{decimal}
use Rattle.listing.specs.Text.{cells, line_at, lines}
use Rattle.listing.proofs.Digits.{decimal_small, decimal_large}
use Rattle.listing.proofs.Front.{line_part}

-- a number below ten
pub number_small : {u w : Writer} (n : ℕ) → n < 10 → Puts u ((48 + n) ∷ []) w → Puts u (decimal n) w
number_small n h p = put_as p (decimal n) (sym (decimal_small n h))

-- a number of two digits
two_digits : (n : ℕ) → 10 ≤ n → n ≤ 99 → (48 + n / 10) ∷ (48 + n % 10) ∷ [] ≡ decimal n
two_digits n h l = sym (decimal_large n h ∙ ap (λ z. z ++ ((48 + n % 10) ∷ [])) (decimal_small (n / 10) (omega arith)))

pub number_pair : {u w : Writer} (n : ℕ) → 10 ≤ n → n ≤ 99 → Puts u ((48 + n / 10) ∷ (48 + n % 10) ∷ []) w → Puts u (decimal n) w
number_pair n h l p = put_as p (decimal n) (two_digits n h l)

-- a number from ten on
pub number_large : {u v w : Writer} (n : ℕ) → 10 ≤ n → Puts u (decimal (n / 10)) v → Puts v ((48 + n % 10) ∷ []) w → Puts u (decimal n) w
number_large n h p q = put_as (put_then p q) (decimal n) (sym (decimal_large n h))

-- room for its digit
pub small_room : {w : Writer} (n : ℕ) → n < 10 → Room w (decimal n) → Room w ((48 + n) ∷ [])
small_room {w} n h r = subst (λ z. Room w z) (decimal_small n h) r

-- room for its two digits
pub pair_room : {w : Writer} (n : ℕ) → 10 ≤ n → n ≤ 99 → Room w (decimal n) → Room w ((48 + n / 10) ∷ (48 + n % 10) ∷ [])
pair_room {w} n h l r = subst (λ z. Room w z) (sym (two_digits n h l)) r

-- room for the digits of the tenth part and the last one
pub large_room : {w : Writer} (n : ℕ) → 10 ≤ n → Room w (decimal n) → Room w (decimal (n / 10) ++ ((48 + n % 10) ∷ []))
large_room {w} n h r = subst (λ z. Room w z) (decimal_large n h) r

module _ (xs : List ℕ) where
  -- the cells with one more
  cells_next : (k : ℕ) → cells xs 0 (suc k) ≡ cells xs 0 k ++ ((32 ∷ []) ++ decimal (get_or xs k 0))
  unfolding cells
  cells_next k = ap (λ z. cells xs 0 k ++ (32 ∷ decimal (get_or xs z 0))) (zero-add k)

  -- one more cell
  pub cells_more : {u v w x : Writer} (k : ℕ) → Puts u (cells xs 0 k) v → Puts v (32 ∷ []) w → Puts w (decimal (get_or xs k 0)) x → Puts u (cells xs 0 (k + 1)) x
  cells_more k p b d = put_as (put_then p (put_then b d)) (cells xs 0 (k + 1)) (sym (cells_next k) ∙ sym (ap (λ z. cells xs 0 z) (add-one k)))

  -- room for it
  pub cell_room : {u v : Writer} (i k : ℕ) → i < k → Puts u (cells xs 0 i) v → Room u (cells xs 0 k) → Room v ((32 ∷ []) ++ decimal (get_or xs i 0))
  unfolding cells
  cell_room i k h p r =
      step_room (cells xs 0) (λ j. omega (arith, length-append (cells xs 0 j) (32 ∷ decimal (get_or xs (0 + j) 0))))
      i k ((32 ∷ []) ++ decimal (get_or xs i 0)) (cells_next i) h p r

  -- n entries from place q on, which are those of the next column
  module _ (t c q n : ℕ) (place : q ≡ c * (2 * t + 1)) (size : n ≡ 2 * t + 1) where
    -- the lines with one more
    line_next : lines xs t (suc c) ≡ lines xs t c ++ line_at (take n (drop q xs)) t (c + 1) 0
    unfolding lines
    line_next =
        ap₂ (λ i j. lines xs t c ++ line_at xs t i j) (sym (add-one c)) (sym place)
        ∙ ap (λ z. lines xs t c ++ z) (sym (line_part xs t (c + 1) q n size))

    -- one more line
    pub lines_more : {u v w : Writer} → Puts u (lines xs t c) v → Puts v (line_at (take n (drop q xs)) t (c + 1) 0) w → Puts u (lines xs t (c + 1)) w
    lines_more p l = put_as (put_then p l) (lines xs t (c + 1)) (sym line_next ∙ sym (ap (λ z. lines xs t z) (add-one c)))

    -- room for it
    pub line_room : {u v : Writer} (w : ℕ) → c < w → Puts u (lines xs t c) v → Room u (lines xs t w) → Room v (line_at (take n (drop q xs)) t (c + 1) 0)
    unfolding lines
    line_room w h p r =
        step_room (lines xs t) (λ j. omega (arith, length-append (lines xs t j) (line_at xs t (suc j) (j * (2 * t + 1)))))
        c w (line_at (take n (drop q xs)) t (c + 1) 0) line_next h p r
