-- What is listed depends on the entries that are listed alone: of a part, and of a layout with more behind it. Assumes nothing.
use Prim.Native.Nat.{ℕ, zero, suc, ◌+◌, ◌*◌, ◌≤◌, ◌<◌}
use native.Mathlib.Omega.{arith}
use native.Mathlib.Nat.{suc-mul, zero-add, add_assoc}
use mathlib.Core.Path.{◌≡◌, refl, ap, ap₂, sym, ◌∙◌}
use mathlib.Core.List.{List, [], ◌∷◌, ◌++◌}
use lib.ListN.{length, get_or, take, drop, get_or-append, length-drop}
use lib.Seq.{length-take-le}
use Rattle.std.proofs.lemmas.List.{get_or-take, get_or-drop}
use Rattle.listing.specs.Digits.{decimal}
use Rattle.listing.specs.Text.{cells, column_at, line_at, lines, header, drawing_text}

-- k entries of xs from place p on are those of ys from place q on
abbrev Same : (xs ys : List ℕ) (p q k : ℕ) → Type 0
Same xs ys p q k = (i : ℕ) → i < k → get_or xs (p + i) 0 ≡ get_or ys (q + i) 0

-- the same cells
cells_same : (xs ys : List ℕ) (p q k : ℕ) → Same xs ys p q k → cells xs p k ≡ cells ys q k
unfolding cells
cells_same xs ys p q zero h = refl
cells_same xs ys p q (suc k) h = ap₂ (λ a d. a ++ (32 ∷ decimal d)) (cells_same xs ys p q k (λ i l. h i (omega arith))) (h k (omega arith))

-- the same line
line_same : (xs ys : List ℕ) (t c p q : ℕ) → Same xs ys p q (2 * t + 1) → line_at xs t c p ≡ line_at ys t c q
unfolding line_at column_at
line_same xs ys t c p q h =
    ap₂ (λ a b. decimal c ++ (58 ∷ ((a ++ ((32 ∷ 124 ∷ []) ++ b)) ++ (10 ∷ [])))) (cells_same xs ys p q (t + 1) (λ i l. h i (omega arith)))
    (cells_same xs ys (p + (t + 1)) (q + (t + 1)) t further)
  where
    further : Same xs ys (p + (t + 1)) (q + (t + 1)) t
    further i l =
        ap (λ z. get_or xs z 0) (add_assoc p (t + 1) i) ∙ h (t + 1 + i) (omega arith) ∙ sym (ap (λ z. get_or ys z 0) (add_assoc q (t + 1) i))

-- A PART of a layout
-- the line of a column that is taken out
pub line_part : (xs : List ℕ) (t c q n : ℕ) → n ≡ 2 * t + 1 → line_at (take n (drop q xs)) t c 0 ≡ line_at xs t c q
line_part xs t c q n e =
    line_same (take n (drop q xs)) xs t c 0 q
    (λ i l. ap (λ z. get_or (take n (drop q xs)) z 0) (zero-add i) ∙ get_or-take n (drop q xs) i 0 (omega arith) ∙ get_or-drop q xs i 0)

-- the cells before the bar and those behind it
pub column_parts : (xs front back : List ℕ) (t : ℕ) → length xs ≡ 2 * t + 1 → front ≡ take (t + 1) xs → back ≡ drop (t + 1) xs
    → column_at xs t 0 ≡ cells front 0 (length front) ++ ((32 ∷ 124 ∷ []) ++ cells back 0 (length back))
unfolding column_at
column_parts xs front back t e f b = ap₂ (λ l r. l ++ ((32 ∷ 124 ∷ []) ++ r)) (vertical ∙ sym (ap (λ z. cells z 0 (length z)) f)) (horizontal ∙ sym (ap (λ z. cells z 0 (length z)) b))
  where
    vertical : cells xs 0 (t + 1) ≡ cells (take (t + 1) xs) 0 (length (take (t + 1) xs))
    vertical =
        sym (cells_same (take (t + 1) xs) xs 0 0 (t + 1)
        (λ i l. ap (λ z. get_or (take (t + 1) xs) z 0) (zero-add i) ∙ get_or-take (t + 1) xs i 0 l ∙ sym (ap (λ z. get_or xs z 0) (zero-add i))))
        ∙ ap (cells (take (t + 1) xs) 0) (sym (length-take-le (t + 1) xs (omega arith)))

    horizontal : cells xs (0 + (t + 1)) t ≡ cells (drop (t + 1) xs) 0 (length (drop (t + 1) xs))
    horizontal =
        ap (λ z. cells xs z t) (zero-add (t + 1))
        ∙ sym (cells_same (drop (t + 1) xs) xs 0 (t + 1) t (λ i l. ap (λ z. get_or (drop (t + 1) xs) z 0) (zero-add i) ∙ get_or-drop (t + 1) xs i 0))
        ∙ ap (cells (drop (t + 1) xs) 0) (let n : t ≡ length (drop (t + 1) xs) = omega (arith, length-drop (t + 1) xs) in n)

-- MORE BEHIND a layout
-- the same lines
lines_front : (xs ys : List ℕ) (t w : ℕ) → w * (2 * t + 1) ≤ length xs → lines (xs ++ ys) t w ≡ lines xs t w
unfolding lines
lines_front xs ys t zero h = refl
lines_front xs ys t (suc c) h =
    ap₂ (λ a b. a ++ b) (lines_front xs ys t c (omega (arith, suc-mul c (2 * t + 1))))
    (line_same (xs ++ ys) xs t (suc c) (c * (2 * t + 1)) (c * (2 * t + 1))
    (λ i l. get_or-append xs ys 0 (c * (2 * t + 1) + i) (omega (arith, suc-mul c (2 * t + 1)))))

-- the same listing
pub drawn_front : (xs ys : List ℕ) (d t w : ℕ) → w * (2 * t + 1) ≤ length xs → drawing_text d t w (xs ++ ys) ≡ drawing_text d t w xs
unfolding drawing_text
drawn_front xs ys d t w h = ap (λ z. header d t w ++ z) (lines_front xs ys t w h)
