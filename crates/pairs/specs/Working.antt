-- The unpaired double nets as a set, by tables: at v stands net v's number of strands, its mate, its last column.
use Rattle.std.specs.Prelude.{ℕ, ◌≤◌, ◌<◌, ◌≡◌, ◌≢◌, ◌⊎◌, Bool, true, false, not, ◌&&◌, ◌||◌, List, eqb, ltb, get_or}
use Rattle.grid.specs.Channel.{pick}
use Rattle.sets.specs.Member.{member}
use Rattle.sweep.specs.declared.Double.{Double}
use Rattle.sweep.specs.Pairs.{unpair, pair_up}
use Rattle.sweep.specs.Drawing.{no_double}

-- net v has two strands and no mate
unfoldable pub lone_by : (number mates : List ℕ) (v : ℕ) → Bool
lone_by number mates v = not (eqb v 0) && (eqb (get_or number v 0) 2 && eqb (get_or mates v 0) 0)

-- the set s says so of net v
abbrev pub LoneAt : (number mates s : List ℕ) (v : ℕ) → Type 0
LoneAt number mates s v = member s v ≡ lone_by number mates v

-- s' says so of net v, and of the nets that s says so of
abbrev pub MarksLone : (number mates : List ℕ) (v : ℕ) (s s' : List ℕ) → Type 0
MarksLone number mates v s s' = (j : ℕ) → (j ≡ v) ⊎ LoneAt number mates s j → LoneAt number mates s' j

-- s' says so of three nets, and of the nets that s says so of
abbrev pub MarksLoneThree : (number mates : List ℕ) (u v w : ℕ) (s s' : List ℕ) → Type 0
MarksLoneThree number mates u v w s s' = (j : ℕ) → (j ≡ u) ⊎ ((j ≡ v) ⊎ ((j ≡ w) ⊎ LoneAt number mates s j)) → LoneAt number mates s' j

-- net u, 0 where it is v or w
unfoldable pub apart_from : (v w u : ℕ) → ℕ
apart_from v w u = pick (eqb u v || eqb u w) 0 u

-- net v if column c is its last, else 0
unfoldable pub ending_by : (last : List ℕ) (c v : ℕ) → ℕ
ending_by last c v = pick (ltb c (get_or last v 0)) 0 v

-- r is the lowest of the numbers over a and up to 511 that passes a test, 0 where there is none
pub record LeastAbove (p : ℕ → Bool) (a r : ℕ) : Type 0 where
  pub small : r < 512
  pub found : r ≢ 0 → (a < r) × (p r ≡ true)
  pub below : (v : ℕ) → a < v → v < 512 → (r ≡ 0) ⊎ (v < r) → p v ≡ false

-- the members of a set other than d
abbrev pub but_for : (s : List ℕ) (d v : ℕ) → Bool
but_for s d v = member s v && not (eqb v d)

-- net v as a double net (0: none)
unfoldable pub double_by : (last low high : List ℕ) (v : ℕ) → Double
double_by last low high v = pick (eqb v 0) no_double (record { net = v; low = get_or low v 0; high = get_or high v 0; last = get_or last v 0 })

-- the mates after column c with pins of the nets p and q: the pairs of the nets that end there end, and d and s become one (0 and 0: none)
unfoldable pub renewed : (last : List ℕ) (c p q d s : ℕ) → List ℕ → List ℕ
renewed last c p q d s m = pair_up d s (unpair (ending_by last c q) (unpair (ending_by last c p) m))

-- numbers that a set may hold, and mates that are such numbers
pub record Numbers (a p q d s : ℕ) (m : List ℕ) : Type 0 where
  pub ended : a ≤ 511
  pub above : p ≤ 511
  pub below : q ≤ 511
  pub double : d ≤ 511
  pub single : s ≤ 511
  pub mates : (j : ℕ) → get_or m j 0 ≤ 511

-- where s says of all nets but a, p and q whether they are unpaired double nets, with the mates m, s' says so of all, with the mates m'
abbrev pub MarksAllLone : (number m m' : List ℕ) (a p q : ℕ) (s s' : List ℕ) → Type 0
MarksAllLone number m m' a p q s s' =
    member s 0 ≡ false → ((j : ℕ) → j ≢ a → j ≢ p → j ≢ q → LoneAt number m s j) → (j : ℕ) → LoneAt number m' s' j
