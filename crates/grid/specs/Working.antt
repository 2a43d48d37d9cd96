-- What the private functions of the row check promise each other. No promise of a public call rests on these.
use Rattle.std.specs.Prelude.{ℕ, ◌+◌, ◌≤◌, ◌≡◌, Bool, false, not, ◌&&◌, ◌||◌, List, eqb, ltb, length, get_or}
use Rattle.grid.specs.Channel.{pick, bit, over, count, pins}
use Rattle.grid.specs.Nets.{first_column, last_column, table}

-- the number of the first of the rows' refusals 4 to 6, in the words of `rows_refused`; 0 for none
unfoldable pub sizes_refused : (top bottom : List ℕ) (most : ℕ) → ℕ
sizes_refused top bottom most =
    pick (not (eqb (length top) (length bottom))) 4
    (pick (ltb most (length top)) 5
    (pick (over top || over bottom) 6
    0))

-- rows that refusals 4 to 6 leave
pub record Rows (top bottom : List ℕ) : Type 0 where
  pub same : length top ≡ length bottom
  pub short : length top ≤ 256
  pub above : over top ≡ false
  pub below : over bottom ≡ false

-- a list of 257 places with a figure of each net 1 to 256 at its number; at 0 stands anything
pub record ByNet (f : ℕ → ℕ) (l : List ℕ) : Type 0 where
  pub size : length l ≡ 257
  pub at : (v : ℕ) → 1 ≤ v → v ≤ 256 → get_or l v 0 ≡ f v

-- the tables of the facts of each net
pub record Filled (top bottom first last counts : List ℕ) : Type 0 where
  pub firsts : first ≡ table (first_column top bottom)
  pub lasts : last ≡ table (last_column top bottom)
  pub pinned : counts ≡ table (pins top bottom)

-- one of the numbers 1 to k passes a test
abbrev pub some_to : (ℕ → Bool) → ℕ → Bool
some_to p k = not (eqb (count p k) 0)

-- by the tables of the nets' first columns and pins, column c has the first two pins of a net of three: its top pin is p, its bottom pin q
abbrev pub first_two_by : (first counts : List ℕ) (c p q : ℕ) → Bool
first_two_by first counts c p q = not (eqb p 0) && (eqb p q && (eqb (get_or counts p 0) 3 && eqb (get_or first p 0) c))

-- a figure x of net p and y of net q, the same net once
abbrev pub of_both : ℕ → ℕ → ℕ → ℕ → ℕ
of_both p q x y = x + pick (eqb p q) 0 y

-- how many of the nets p and q have column c in a table: by their first columns those that start there, by their last those that end there
abbrev pub nets_on : (columns : List ℕ) (c p q : ℕ) → ℕ
nets_on columns c p q = of_both p q (bit (eqb (get_or columns p 0) c)) (bit (eqb (get_or columns q 0) c))
