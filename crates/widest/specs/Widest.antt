-- Document 02, Job 12, "The widest drawing": the channel that is written, what the call answers, and what it leaves in the lent rows.
use Rattle.std.specs.Prelude.{ℕ, zero, suc, ◌+◌, ◌*◌, ◌/◌, ◌%◌, not, List, [], ◌∷◌, ◌++◌, eqb, ltb, length, replicate, Result}
use Rattle.grid.specs.Channel.{pick}
use Rattle.grid.specs.declared.refusals.Refusal.{Refusal}
use Rattle.grid.specs.Refusals.{if_accepted, figures_or, answer_of}

-- THE CHANNEL of n columns, "of two-pin nets whose drawing adds n/2 columns, rounded down". With h for n/2, rounded down, its nets are 1 to 2h:
--   top     2  4  ..  2h      1  3  ..  2h - 1
--   bottom  1  3  ..  2h - 1  2  4  ..  2h
-- In the first half the nets start, two in a column, net y on track y. In the second half two neighbouring nets end in a column, crossed: the top pin's net
-- lies below the bottom pin's, which by rule 4 takes its track too and is extended. No column after that joins an extended net, so each of the h nets has a
-- column of its own after column n.

-- k numbers: the first is given, and each other is two more than the one before it
unfoldable pub by_two : (first k : ℕ) → List ℕ
by_two first zero = []
by_two first (suc k) = by_two first k ++ (first + 2 * k) ∷ []

-- a row: r columns without a pin, then two halves of h numbers each
abbrev pub halves : (r h first second : ℕ) → List ℕ
halves r h first second = replicate r 0 ++ (by_two first h ++ by_two second h)

-- the top and the bottom row
abbrev pub top_of : (r h : ℕ) → List ℕ
top_of r h = halves r h 2 1

abbrev pub bottom_of : (r h : ℕ) → List ℕ
bottom_of r h = halves r h 1 2

-- of n columns: "For odd n its first column is empty"
unfoldable pub widest_top : (n : ℕ) → List ℕ
widest_top n = top_of (n % 2) (n / 2)

unfoldable pub widest_bottom : (n : ℕ) → List ℕ
widest_bottom n = bottom_of (n % 2) (n / 2)

-- THE ANSWER: the columns added, 0 on refusal
abbrev pub columns_of : Result ℕ Refusal → ℕ
columns_of r = figures_or 0 r

-- WHAT THE CALL ANSWERS, for lent rows of n and m entries
module _ (n m : ℕ) where
  -- "4 and 5 hold for them as for rows that are read": 4 "lengths differ", 5 "over 256 columns"; 0 for none. What the rows hold is not read
  unfoldable pub refused : ℕ
  refused = pick (not (eqb n m)) 4 (pick (ltb 256 n) 5 0)

  -- "n/2 columns, rounded down"
  unfoldable pub answer : Result ℕ Refusal
  answer = answer_of refused (n / 2)

-- WHAT IT LEAVES in rows that held `top` and `bottom`: the channel, and "A refused call writes to no lent slice"
module _ (top bottom : List ℕ) where
  unfoldable pub top_after : List ℕ
  top_after = if_accepted (refused (length top) (length bottom)) (widest_top (length top)) top

  unfoldable pub bottom_after : List ℕ
  bottom_after = if_accepted (refused (length top) (length bottom)) (widest_bottom (length top)) bottom
