-- 16-bit words in bytes, the low byte first.
use Rattle.std.specs.Prelude.{◌≡◌, List, [], ◌∷◌, ◌++◌, ℕ, zero, suc, ◌+◌, ◌*◌, ◌/◌, ◌≤◌, min, length, take, get_or}

-- the word in the two bytes from i on
abbrev pub word_at : List ℕ → ℕ → ℕ
word_at bytes i = get_or bytes i 0 + 256 * get_or bytes (i + 1) 0

-- the first k words of some bytes
unfoldable pub words_to : List ℕ → ℕ → List ℕ
words_to bytes zero = []
words_to bytes (suc k) = words_to bytes k ++ (word_at bytes (2 * k) ∷ [])

-- words begins with n words of some bytes, all of them or as many as it has room for. `within` and `part` follow from `count`: they are stated so that the
-- proof that Rattle makes of `&words[..n]` finds them.
pub record Decoded (bytes words : List ℕ) (n : ℕ) : Type 0 where
  pub within : n ≤ length words
  pub part : n ≡ length (take n words)
  pub count : n ≡ min (length bytes / 2) (length words)
  pub holds : take n words ≡ words_to bytes n
