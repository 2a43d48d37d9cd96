-- Sets of the numbers 0 to 511 as lists of 64-bit words: the number k is binary digit k % 64 of word k / 64.
use Rattle.std.specs.Prelude.{◌≡◌, Bool, false, true, List, ℕ, ◌+◌, ◌/◌, ◌%◌, ◌^◌, ◌≤◌, ◌<◌, get_or, eqb, Option, MatchOption}

-- binary digit j of x, the lowest is 0
unfoldable pub digit : ℕ → ℕ → ℕ
digit x j = x / 2 ^ j % 2

-- whether k is a member of the set whose words are s
unfoldable pub member : List ℕ → ℕ → Bool
member s k = eqb (digit (get_or s (k / 64) 0) (k % 64)) 1

-- t is s with k made a member, or made none, as b says
pub record Put (s : List ℕ) (k : ℕ) (b : Bool) (t : List ℕ) : Type 0 where
  pub same : member t k ≡ b
  pub other : (j : ℕ) → (j ≡ k → ⊥) → member t j ≡ member s j

-- no member from a up to b
abbrev pub Clear : List ℕ → ℕ → ℕ → Type 0
Clear s a b = (k : ℕ) → a ≤ k → k < b → member s k ≡ false

-- r is the lowest member of s that is at least a, or 512 where there is none
pub record LowestFrom (s : List ℕ) (a r : ℕ) : Type 0 where
  pub low : a ≤ r
  pub high : r ≤ 512
  pub found : r < 512 → member s r ≡ true
  pub below : Clear s a r

-- a step of a walk over the members of s, of which k came last: with r the walk goes on at t and n
abbrev pub Walks : (s : List ℕ) (k : ℕ) (r : Option ℕ) (t : List ℕ) (n : ℕ) → Type 0
Walks s k r t n = (t ≡ s) × MatchOption r (LowestFrom s (k + 1) 512) (λ m. (n ≡ m) × (m < 512) × LowestFrom s (k + 1) m)
