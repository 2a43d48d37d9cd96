-- Rows in 256 places. Assumes nothing.
use Prim.Native.Nat.{ℕ, ◌+◌, ◌-◌, ◌≤◌, ◌<◌, min}
use mathlib.Core.Path.{◌≡◌, refl, sym, ap, ◌∙◌}
use mathlib.Core.List.{List, ◌++◌}
use mathlib.Core.Logic.{⊎_elim}
use native.Mathlib.Omega.{arith}
use lib.ListN.{length, take, drop, get_or, replicate, length-append, length-replicate, get_or-append, get_or-eq_default}
use lib.Seq.{length-take-le, take_at, drop_at, get_or-append-add}
use Rattle.grid.specs.Places.{padded, no_row}
use Rattle.grid.proofs.Counting.{zeros}
use Rattle.grid.proofs.Tests.{below_or}

pub no_row-length : length no_row ≡ 256
unfolding no_row
no_row-length = refl

pub padded-length : (l : List ℕ) → length l ≤ 256 → length (padded l) ≡ 256
unfolding padded
padded-length l h = let e = length-append l (replicate (256 - length l) 0) in let f = length-replicate {A = ℕ} (256 - length l) 0 in omega (arith, e, f)

-- a row in 256 places reads as the row itself, which has nothing past its end
pub padded_at : (l : List ℕ) (c : ℕ) → get_or (padded l) c 0 ≡ get_or l c 0
unfolding padded
padded_at l c =
    let z : List ℕ = replicate (256 - length l) 0 in
    ⊎_elim (λ (p : c < length l). get_or-append l z 0 c p)
    (λ (p : length l ≤ c).
    let e : c ≡ length l + (c - length l) = omega arith in
    ap (λ (k : ℕ). get_or (l ++ z) k 0) e ∙ get_or-append-add l z (c - length l) 0 ∙ zeros (256 - length l) (c - length l) ∙ sym (get_or-eq_default l 0 p))
    (below_or c (length l))

-- its first places hold the row
pub padded-row : (l : List ℕ) (n : ℕ) → n ≡ length l → take n (padded l) ≡ l
unfolding padded
padded-row l n e = take_at l (replicate (256 - length l) 0) n (sym e)

-- and may be those of another row as long
pub padded_other : (l m : List ℕ) (n : ℕ) → n ≡ length l → length m ≡ length l → m ++ drop n (padded l) ≡ padded m
unfolding padded
padded_other l m n e h =
    ap (λ (z : List ℕ). m ++ z) (drop_at l (replicate (256 - length l) 0) n (sym e) ∙ ap (λ (k : ℕ). replicate {A = ℕ} (256 - k) 0) (sym h))

-- the part of the first n places of an array is n long
pub part_length : (columns n : ℕ) (xs : List ℕ) → n ≡ min columns 256 → length xs ≡ 256 → n ≡ length (take n xs)
part_length columns n xs e h = sym (length-take-le n xs (omega arith))
