-- Document 02, Job 6, "One spelling of a channel": the record that the call writes, read back and written again, and which channels get equal bytes.
use Rattle.std.specs.Prelude.{ℕ, ◌+◌, ◌*◌, ◌≡◌, ◌↔◌, List, length, take, Ok}
use Rattle.grid.specs.Refusals.{number_of}
use Rattle.grid.specs.Channel.{density, tracks}
use Rattle.record.specs.Record.{record_read, top_row, bottom_row}
use Rattle.canonical.specs.Renaming.{net_list, new_number, new_top, new_bottom, IsNet, Renames, InOrder}
use Rattle.canonical.specs.Canonical.{answer, bytes_after}
use Rattle.demands.specs.Table.{LetsThrough, end, of_rows}

-- the first 6 + 4n bytes of a slice that held `old`, after the call
abbrev pub first_bytes : (top bottom old : List ℕ) → List ℕ
first_bytes top bottom old = take (6 + 4 * length top) (bytes_after top bottom old)

-- "Reading the bytes back gives the renamed channel": they are a record of n columns, with the renamed rows
pub record ReadsBack (top bottom s : List ℕ) : Type 0 where
  pub columns : record_read s ≡ Ok (length top)
  pub tops : top_row s ≡ new_top top bottom
  pub bottoms : bottom_row s ≡ new_bottom top bottom

-- A CHANNEL whose rows the table lets through
pub record Spelled (top bottom : List ℕ) : Type 0 where
  -- "its nets renumbered 1, 2, 3 in the order of their first pin, column by column, top before bottom": the new numbers are in this order, and no others
  pub in_order : InOrder top bottom (new_number top bottom) (length (net_list top bottom))
  pub only : (number : ℕ → ℕ) (m : ℕ) → InOrder top bottom number m → (v : ℕ) → IsNet top bottom v → number v ≡ new_number top bottom v
  pub renames : Renames (new_number top bottom) top bottom (new_top top bottom) (new_bottom top bottom)
  -- what an accepted call writes, read back
  pub reads_back : (old : List ℕ) → number_of (answer top bottom (length old)) ≡ 0 → ReadsBack top bottom (first_bytes top bottom old)
  -- the renamed channel is accepted, with the same density and tracks; not always with the same width
  pub accepted : LetsThrough (of_rows (new_top top bottom) (new_bottom top bottom) 256 end)
  pub same_density : density (new_top top bottom) (new_bottom top bottom) ≡ density top bottom
  pub same_tracks : tracks (new_top top bottom) (new_bottom top bottom) ≡ tracks top bottom
  -- "and writing that again changes nothing": over the slice that holds it, not a byte; into any other slice, the same bytes
  pub again : (old : List ℕ) → number_of (answer top bottom (length old)) ≡ 0
      → bytes_after (new_top top bottom) (new_bottom top bottom) (bytes_after top bottom old) ≡ bytes_after top bottom old
  pub elsewhere : (old new : List ℕ) → number_of (answer top bottom (length old)) ≡ 0 → number_of (answer top bottom (length new)) ≡ 0
      → first_bytes (new_top top bottom) (new_bottom top bottom) new ≡ first_bytes top bottom old

-- TWO CHANNELS, each into a slice that is long enough: "Two channels get equal bytes precisely when a one-to-one renaming of nets turns one into the other"
abbrev pub EqualBytes : (top bottom old top' bottom' old' : List ℕ) → Type 0
EqualBytes top bottom old top' bottom' old' =
    (first_bytes top bottom old ≡ first_bytes top' bottom' old') ↔ ((f : ℕ → ℕ) × Renames f top bottom top' bottom')

-- ALL CHANNELS
pub record OneSpelling : Type 0 where
  pub spelled : (top bottom : List ℕ) → LetsThrough (of_rows top bottom 256 end) → Spelled top bottom
  pub equal_bytes : (top bottom old top' bottom' old' : List ℕ) → number_of (answer top bottom (length old)) ≡ 0
      → number_of (answer top' bottom' (length old')) ≡ 0 → EqualBytes top bottom old top' bottom' old'
