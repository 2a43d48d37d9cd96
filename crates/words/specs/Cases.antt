-- Cases of 16-bit words, one after the other.
use Rattle.std.specs.Prelude.{◌≡◌, List, ℕ, ◌+◌, ◌*◌, ◌++◌, length, take, drop, get_or}

-- words begins with a case whose head has n words, and rest follows: first the lengths of the rows, then the head and the length of the layout, low word first,
-- then the rows and the layout
pub record Begins (n : ℕ) (words head top bottom layout rest : List ℕ) : Type 0 where
  pub above : length top ≡ get_or words 0 0
  pub below : length bottom ≡ get_or words 1 0
  pub drawn : length layout ≡ get_or words (n + 2) 0 + 65536 * get_or words (n + 3) 0
  pub given : head ≡ take n (drop 2 words)
  pub parts : top ++ (bottom ++ (layout ++ rest)) ≡ drop (n + 4) words
