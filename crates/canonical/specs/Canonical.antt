-- Document 02, Job 6: the bytes of a channel's one spelling, the answer of `write`, and what it leaves in the lent slice.
use Rattle.std.specs.Prelude.{ℕ, ◌+◌, ◌*◌, List, ltb, length, Result}
use Rattle.grid.specs.Channel.{pick, rows_refused}
use Rattle.grid.specs.declared.refusals.Refusal.{Refusal}
use Rattle.grid.specs.Refusals.{first_refusal, if_accepted, figures_or, answer_of}
use Rattle.record.specs.Record.{record_of, laid}
use Rattle.canonical.specs.Renaming.{new_top, new_bottom}

-- the bytes written of an answer, 0 on refusal
abbrev pub length_of : Result ℕ Refusal → ℕ
length_of r = figures_or 0 r

module _ (top bottom : List ℕ) where
  -- "Write a channel as a record of kind 1 with its nets renumbered": the bytes
  unfoldable pub canonical : List ℕ
  canonical = record_of (new_top top bottom) (new_bottom top bottom)

  -- how many they are, "6 + 4n"
  abbrev pub record_size : ℕ
  record_size = 6 + 4 * length top

  -- the number of the refusal with a slice of `lent` bytes, 0 for none: 4 to 7, then 18, "output slice shorter than 6 + 4n bytes; checked after 9"
  unfoldable pub refused : (lent : ℕ) → ℕ
  refused lent = first_refusal (rows_refused top bottom 256) (pick (ltb lent record_size) 18 0)

  -- the answer
  unfoldable pub answer : (lent : ℕ) → Result ℕ Refusal
  answer lent = answer_of (refused lent) record_size

  -- the bytes of a slice that held `old`: the record, and "Bytes behind the record keep their contents"; all of them on refusal
  unfoldable pub bytes_after : (old : List ℕ) → List ℕ
  bytes_after old = if_accepted (refused (length old)) (laid canonical old) old
