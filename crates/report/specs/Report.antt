-- Document 01: "The net report fills a lent table of net records, one per number 1 to 256: first column, last column, pin count; zeros for an unused
-- number. Records after the 256th keep their contents." The first record is that of net 1. Document 02, Job 2: "The net record gains a length, filled in
-- from a drawing; the report without a drawing puts 0 there."
use Rattle.std.specs.Prelude.{ℕ, zero, suc, List, [], ◌∷◌, ◌++◌, ltb, length, drop, replicate, Result, Ok, Err}
use Rattle.grid.specs.Channel.{pick, pins, rows_refused}
use Rattle.grid.specs.Nets.{first_column, last_column}
use Rattle.grid.specs.Refusals.{first_refusal, if_accepted, refusal}
use Rattle.checker.specs.declared.Fault.{Fault}
use Rattle.checker.specs.declared.Told.{Told}
use Rattle.checker.specs.Check.{told_of, drawing_refused, place, column, row}
use Rattle.report.specs.declared.NetRecord.{NetRecord}
use Rattle.report.specs.declared.Drawing.{Drawing}
use Rattle.report.specs.declared.Drawing.TheVariants.{Absent, Given}
use Rattle.report.specs.Length.{wire_length}

-- a number without place, column and row
abbrev pub number_only : ℕ → Told
number_only k = record { number = k; place = 0; column = 0; row = 0 }

-- the answer of a report: a table that is filled, or the fault
abbrev pub Reported : Type 0
Reported = Result (Unit {0}) Fault

-- the document's number, place, column and row for each case of the answer: "The number on acceptance is 0"
abbrev pub fault_of : Reported → Told
fault_of r = told_of r

-- its number
abbrev pub number_of : Reported → ℕ
number_of r = (fault_of r).number

-- the answer with a number and what is told of it
abbrev pub answer_with : ℕ → Told → Reported
answer_with zero t = Ok tt
answer_with (suc k) t = Err (record { refusal = refusal (suc k); place = t.place; column = t.column; row = t.row })

-- f at the numbers 1 to k
unfoldable pub up_to : (ℕ → NetRecord) → ℕ → List NetRecord
up_to f zero = []
up_to f (suc k) = up_to f k ++ (f (suc k) ∷ [])

-- a table of 256 records of zeros
unfoldable pub blank_table : List NetRecord
blank_table = replicate 256 (record { first = 0; last = 0; pins = 0; length = 0 })

-- the length of net v, from a drawing of w columns and t tracks, or "0 there"
abbrev pub length_in : Drawing → (D : List ℕ) → ℕ → ℕ
length_in Absent D v = 0
length_in (Given w t) D v = wire_length w t D v

module _ (top bottom : List ℕ) where
  -- the number of the drawing's refusal: "only for one the checker passes, and otherwise … the checker's own refusal comes back"
  abbrev pub drawing_number : Drawing → (D : List ℕ) → ℕ
  drawing_number Absent D = 0
  drawing_number (Given w t) D = drawing_refused top bottom w t D

  -- the checker's place, column and row that go with a number
  abbrev pub fault_with : Drawing → (D : List ℕ) → (number : ℕ) → Told
  fault_with Absent D k = number_only k
  fault_with (Given w t) D k = record { number = k; place = place top bottom w t D k; column = column top bottom w t D k; row = row top bottom w t D k }

module _ (top bottom : List ℕ) (drawing : Drawing) (D : List ℕ) where
  -- the record of net v
  abbrev pub record_of : ℕ → NetRecord
  record_of v =
      record { first = first_column top bottom v; last = last_column top bottom v; pins = pins top bottom v; length = length_in drawing D v }

  -- the records of the nets 1 to 256
  unfoldable pub records : List NetRecord
  records = up_to record_of 256

  -- The number of the refusal, 0 for none, "Checked from the top down": those of the rows, 4 to 7, then 9 "net table under 256 records", then the
  -- drawing's: "unless 9 comes first, the checker's own refusal comes back"
  unfoldable pub refused : (size : ℕ) → ℕ
  refused size = first_refusal (rows_refused top bottom 256) (first_refusal (pick (ltb size 256) 9 0) (drawing_number top bottom drawing D))

  -- the answer for a table of so many records
  unfoldable pub reported : (size : ℕ) → Reported
  reported size = answer_with (refused size) (fault_with top bottom drawing D (refused size))

  -- the contents of the table after the call: "A refused call writes to no lent slice or table"
  unfoldable pub table_after : List NetRecord → List NetRecord
  table_after table = if_accepted (refused (length table)) (records ++ drop 256 table) table
