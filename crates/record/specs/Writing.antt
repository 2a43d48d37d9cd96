-- What a writer of bytes asks and what it promises: the room for what is put, and the bytes behind those that were written before.
use Rattle.std.specs.Prelude.{ℕ, ◌+◌, ◌≤◌, ◌≡◌, List, ◌++◌, length, take, drop}
use Rattle.record.specs.declared.writing.Writer.{Writer}

-- there is room for new behind what is written
pub record Room (w : Writer) (new : List ℕ) : Type 0 where
  pub room : w.written + length new ≤ length w.bytes.now

-- new over the bytes of old from place at on
unfoldable pub overwritten : List ℕ → ℕ → List ℕ → List ℕ
overwritten old at new = take at old ++ (new ++ drop (at + length new) old)

-- new was put behind what was written, and the slice is the same
pub record Puts (old : Writer) (new : List ℕ) (now : Writer) : Type 0 where
  pub holds : now.bytes.now ≡ overwritten old.bytes.now old.written new
  pub ends : now.written ≡ old.written + length new
  pub fits : now.written ≤ length old.bytes.now
  pub keeps : length now.bytes.now ≡ length old.bytes.now
  pub same : now.bytes.ghost_name ≡ old.bytes.ghost_name
