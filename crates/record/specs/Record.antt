-- Document 01, "Record and listing" and the table's rows 1 to 3: what the bytes of a record say, and the bytes of a channel's record. Places are counted
-- from 0.
use Rattle.std.specs.Prelude.{ℕ, zero, suc, ◌+◌, ◌*◌, ◌-◌, ◌/◌, ◌%◌, Bool, not, ◌||◌, List, [], ◌∷◌, ◌++◌, eqb, ltb, length, get_or, drop, Result}
use Rattle.grid.specs.Channel.{pick}
use Rattle.grid.specs.declared.refusals.Refusal.{Refusal}
use Rattle.grid.specs.Refusals.{figures_or, answer_of}

-- "each number two bytes", "little-endian": the number at place i
abbrev pub word : List ℕ → ℕ → ℕ
word s i = get_or s i 0 + 256 * get_or s (i + 1) 0

-- 1: "under 4 or over 1,030 bytes, or length field unequal to the bytes after it"
unfoldable pub wrong_length : List ℕ → Bool
wrong_length s = ltb (length s) 4 || (ltb 1030 (length s) || not (eqb (word s 0) (length s - 2)))

-- 2: "kind not 1"
unfoldable pub wrong_kind : List ℕ → Bool
wrong_kind s = not (eqb (word s 2) 1)

-- 3: "body under 2 bytes, or not 2 + 4n bytes"
unfoldable pub wrong_body : List ℕ → Bool
wrong_body s = ltb (length s - 4) 2 || not (eqb (length s - 4) (2 + 4 * word s 4))

-- "Checked from the top down": the number of the refusal, 0 for none
unfoldable pub record_refused : List ℕ → ℕ
record_refused s = pick (wrong_length s) 1 (pick (wrong_kind s) 2 (pick (wrong_body s) 3 0))

-- the columns of an answer, "zeros" for a refusal
abbrev pub columns : Result ℕ Refusal → ℕ
columns r = figures_or 0 r

-- the answer to a record: the columns of its channel, or the refusal
unfoldable pub record_read : List ℕ → Result ℕ Refusal
record_read s = answer_of (record_refused s) (word s 4)

-- k numbers from place at on
unfoldable pub row : List ℕ → ℕ → ℕ → List ℕ
row s at zero = []
row s at (suc k) = row s at k ++ (word s (at + 2 * k) ∷ [])

-- "n, the top row, the bottom row"; no numbers where the record is refused
unfoldable pub top_row : List ℕ → List ℕ
top_row s = row s 6 (columns (record_read s))

-- the bottom row follows the top row
unfoldable pub bottom_row : List ℕ → List ℕ
bottom_row s = row s (6 + 2 * columns (record_read s)) (columns (record_read s))

-- a list written over the first elements of an array
abbrev pub laid : List ℕ → List ℕ → List ℕ
laid new old = new ++ drop (length new) old

-- "each number two bytes", "little-endian": the bytes of a number
abbrev pub two_bytes : ℕ → List ℕ
two_bytes v = (v % 256) ∷ (v / 256 % 256) ∷ []

-- the bytes of several numbers
unfoldable pub words : List ℕ → List ℕ
words [] = []
words (x ∷ xs) = two_bytes x ++ words xs

-- "two-byte length of all that follows it, two-byte kind, body", "Kind 1 is a channel: n, the top row, the bottom row": the numbers of a channel's record
abbrev pub fields : List ℕ → List ℕ → List ℕ
fields top bottom = (4 + 4 * length top) ∷ 1 ∷ length top ∷ (top ++ bottom)

-- its bytes
unfoldable pub record_of : List ℕ → List ℕ → List ℕ
record_of top bottom = words (fields top bottom)
