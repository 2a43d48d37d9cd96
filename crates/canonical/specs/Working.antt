-- What the private functions of `write` promise each other. No promise of the public call rests on these.
use Rattle.std.specs.Prelude.{ℕ, ◌+◌, ◌*◌, ◌≡◌, List, [], ◌∷◌, map, length, get_or}
use Rattle.grid.specs.Working.{ByNet}
use Rattle.canonical.specs.Renaming.{rank}

-- a table with the rank of each net in a list of nets, which are as many as are given; 0 has a number too, so that it is given none
pub record Ranked (l : List ℕ) (given : ℕ) (table : List ℕ) : Type 0 where
  pub ranks : ByNet (λ v. rank v l) table
  pub count : given ≡ length l
  pub none : get_or table 0 0 ≡ 1

-- the first numbers of a record of n columns
abbrev pub head : ℕ → List ℕ
head n = (4 + 4 * n) ∷ 1 ∷ n ∷ []

-- the numbers of a row, renamed by a table
abbrev pub by_table : (numbers row : List ℕ) → List ℕ
by_table numbers row = map (λ v. get_or numbers v 0) row
