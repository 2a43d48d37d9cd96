-- What private functions of the net report promise. No promise of a public call rests on these.
use Rattle.std.specs.Prelude.{ℕ, ◌+◌, ◌*◌, ◌≤◌, ◌≡◌, ◌≢◌, false, List, length, take, get_or}
use Rattle.grid.specs.Channel.{times, over}
use Rattle.report.specs.declared.NetRecord.{NetRecord}
use Rattle.report.specs.declared.Drawing.{Drawing}
use Rattle.report.specs.declared.Drawing.TheVariants.{Absent, Given}
use Rattle.report.specs.Report.{Reported, answer_with, drawing_number, fault_with}

-- the record of net v from a table for each figure
abbrev pub in_tables : (first last pins lengths : List ℕ) → ℕ → NetRecord
in_tables first last pins lengths v =
    record { first = get_or first v 0; last = get_or last v 0; pins = get_or pins v 0; length = get_or lengths v 0 }

-- the answer on the drawing of accepted rows
abbrev pub drawing_reported : (top bottom : List ℕ) → Drawing → (D : List ℕ) → Reported
drawing_reported top bottom drawing D =
    let k = drawing_number top bottom drawing D in
    answer_with k (fault_with top bottom drawing D k)

-- a layout in which lengths can be counted: of the drawing's size, within the checker's limits, and of net numbers alone
abbrev pub Countable : Drawing → (D : List ℕ) → Type 0
Countable Absent D = Unit {0}
Countable (Given w t) D = (length D ≡ w * (2 * t + 1)) × (length D ≤ 522753) × (over D ≡ false)

-- COUNTS IN FOUR TABLES
-- what they hold together for a number
abbrev pub four : (a b c d : List ℕ) → ℕ → ℕ
four a b c d v = get_or a v 0 + (get_or b v 0 + (get_or c v 0 + get_or d v 0))

-- four tables of 257 places that hold together at most m for each number
pub record FourTables (a b c d : List ℕ) (m : ℕ) : Type 0 where
  pub sizes : (length a ≡ 257) × (length b ≡ 257) × (length c ≡ 257) × (length d ≡ 257)
  pub most : (v : ℕ) → four a b c d v ≤ m

-- the first i entries of a layout are counted in them; 0 is no net
pub record CountedTo (D : List ℕ) (i : ℕ) (a b c d : List ℕ) : Type 0 where
  pub tables : FourTables a b c d i
  pub counts : (v : ℕ) → v ≢ 0 → four a b c d v ≡ times v (take i D)
