-- The first demand: every call takes all numbers and lengths, stops, and refuses with the first number of the table that applies. That each call stops and
-- answers by these definitions, for all arguments, is its own promise.
use Rattle.std.specs.Prelude.{ℕ, ◌≤◌, ◌<◌, min, ◌≡◌, ◌≢◌, ◌⊎◌, List}
use Rattle.grid.specs.Refusals.{number_of}
use Rattle.grid.specs.Answers as counting
use Rattle.router.specs.Answers as routing
use Rattle.checker.specs.Check as checking
use Rattle.report.specs.declared.Drawing.{Drawing}
use Rattle.report.specs.declared.Drawing.TheVariants.{Given}
use Rattle.report.specs.Report as reporting
use Rattle.record.specs.Record as reading
use Rattle.record.specs.Record.{top_row, bottom_row}
use Rattle.listing.specs.Listing as listing
use Rattle.canonical.specs.Canonical as spelling
use Rattle.checker.specs.Faults.{Strange, PinWrong, Unwired, Miswired, Unpinned, FaultAt, LeavesLast, Split, LooseEnd, FirstLoose}
use Rattle.demands.specs.Table.{First, end, of_record, of_rows, of_layout, of_net_table, of_drawing, of_reported, of_output, Least, LowestFault}

-- THE FIRST NUMBER THAT APPLIES, call by call: of the calls on rows, `most` a limit of columns and `lent` the length of a slice
pub record Refuses (top bottom : List ℕ) : Type 0 where
  -- the row check, and the net facts, which answer alike
  pub rows : (most : ℕ) → First (of_rows top bottom (min most 256) end) (number_of (counting.row_check top bottom most))
  pub facts : (most : ℕ) → First (of_rows top bottom (min most 256) end) (number_of (counting.facts_check top bottom most))
  pub density : First (of_rows top bottom 256 end) (number_of (counting.density_count top bottom))
  pub need : First (of_rows top bottom 256 end) (number_of (routing.need top bottom))
  pub route : (most lent : ℕ) → First (of_rows top bottom (min most 256) (of_layout top bottom lent)) (number_of (routing.answer top bottom most lent))
  pub check :
      (w t : ℕ) (D : List ℕ) → First (of_rows top bottom 256 (of_drawing top bottom w t D)) (checking.number_of (checking.checked top bottom w t D))
  -- the net report, with or without a drawing: "unless 9 comes first, the checker's own refusal comes back"
  pub report :
      (drawing : Drawing) (D : List ℕ) (lent : ℕ)
      → First (of_rows top bottom 256 (of_net_table lent (of_reported top bottom drawing D))) (reporting.number_of (reporting.reported top bottom drawing D lent))
  -- the writing of the one spelling
  pub write : (lent : ℕ) → First (of_rows top bottom 256 (of_output top bottom lent)) (number_of (spelling.answer top bottom lent))

-- of the calls on a record's bytes
pub record RefusesRecord (s : List ℕ) : Type 0 where
  pub read : First (of_record s end) (number_of (reading.record_read s))
  pub list : First (of_record s (of_rows (top_row s) (bottom_row s) 64 end)) (number_of (listing.listed s))

-- "A refusal returns its number and zeros for density, tracks, width, slice length and every other figure but the place."
pub record Zeros (top bottom : List ℕ) : Type 0 where
  pub rows : (most : ℕ) → number_of (counting.row_check top bottom most) ≢ 0 → counting.size_of (counting.row_check top bottom most) ≡ counting.no_size
  pub facts :
      (most : ℕ) → number_of (counting.facts_check top bottom most) ≢ 0
      → counting.size_of (counting.rows_of (counting.facts_check top bottom most)) ≡ counting.no_size
  pub density : number_of (counting.density_count top bottom) ≢ 0 → counting.count_density (counting.density_count top bottom) ≡ 0
  pub need : number_of (routing.need top bottom) ≢ 0 → routing.entries_of (routing.need top bottom) ≡ 0
  pub route :
      (most lent : ℕ) → number_of (routing.answer top bottom most lent) ≢ 0 → routing.figures_of (routing.answer top bottom most lent) ≡ routing.no_figures
  pub write : (lent : ℕ) → number_of (spelling.answer top bottom lent) ≢ 0 → spelling.length_of (spelling.answer top bottom lent) ≡ 0

pub record ZerosRecord (s : List ℕ) : Type 0 where
  pub read : number_of (reading.record_read s) ≢ 0 → reading.columns (reading.record_read s) ≡ 0
  pub list : number_of (listing.listed s) ≢ 0 → listing.length_of (listing.listed s) ≡ 0

-- "For 13 to 15 the checker adds the lowest entry position, from 0; for 16 the lowest net number; its place is 0 otherwise."; for 17, document 02, Job 1,
-- "The place is the lowest net number with a loose end"
pub record Places (top bottom : List ℕ) (w t : ℕ) (D : List ℕ) : Type 0 where
  pub strange :
      checking.number_of (checking.checked top bottom w t D) ≡ 13 → Least (Strange top bottom D) (checking.place_of (checking.checked top bottom w t D))
  -- document 02, Job 8: "The lowest faulty position is still reported, and its fault chooses the number."
  pub unwired :
      checking.number_of (checking.checked top bottom w t D) ≡ 14
      → LowestFault Unwired top bottom w t D (checking.place_of (checking.checked top bottom w t D))
  pub miswired :
      checking.number_of (checking.checked top bottom w t D) ≡ 19
      → LowestFault Miswired top bottom w t D (checking.place_of (checking.checked top bottom w t D))
  pub unpinned :
      checking.number_of (checking.checked top bottom w t D) ≡ 20
      → LowestFault Unpinned top bottom w t D (checking.place_of (checking.checked top bottom w t D))
  pub last : checking.number_of (checking.checked top bottom w t D) ≡ 15 → Least (LeavesLast w t D) (checking.place_of (checking.checked top bottom w t D))
  pub split : checking.number_of (checking.checked top bottom w t D) ≡ 16 → Least (Split t D) (checking.place_of (checking.checked top bottom w t D))
  pub loose : checking.number_of (checking.checked top bottom w t D) ≡ 17 → Least (LooseEnd w t D) (checking.place_of (checking.checked top bottom w t D))
  pub other :
      (checking.number_of (checking.checked top bottom w t D) < 13)
      ⊎ ((checking.number_of (checking.checked top bottom w t D) ≡ 18) ⊎ (20 < checking.number_of (checking.checked top bottom w t D)))
      → checking.place_of (checking.checked top bottom w t D) ≡ 0

-- 14, 19 and 20 have one place in the table, and its lines for them may stand in any order: a wrong pin edge has one of the three faults, and one alone
pub record OneFault (top bottom : List ℕ) (w t : ℕ) (D : List ℕ) (p : ℕ) : Type 0 where
  pub some : PinWrong top bottom w t D p → FaultAt Unwired top bottom w t D p ⊎ (FaultAt Miswired top bottom w t D p ⊎ FaultAt Unpinned top bottom w t D p)
  pub unwired_alone : FaultAt Unwired top bottom w t D p → (FaultAt Miswired top bottom w t D p → ⊥) × (FaultAt Unpinned top bottom w t D p → ⊥)
  pub miswired_alone : FaultAt Miswired top bottom w t D p → FaultAt Unpinned top bottom w t D p → ⊥

-- "two further numbers give the column and row of that net's first such point, by column and then row, and are 0 in every other case"
pub record LooseEnds (top bottom : List ℕ) (w t : ℕ) (D : List ℕ) : Type 0 where
  pub first :
      checking.number_of (checking.checked top bottom w t D) ≡ 17
      → FirstLoose w t D (checking.place_of (checking.checked top bottom w t D)) (checking.fault_column (checking.checked top bottom w t D))
      (checking.fault_row (checking.checked top bottom w t D))
  pub other :
      checking.number_of (checking.checked top bottom w t D) ≢ 17
      → (checking.fault_column (checking.checked top bottom w t D) ≡ 0) × (checking.fault_row (checking.checked top bottom w t D) ≡ 0)

-- document 02, Job 2: "the checker's own refusal comes back" from the report on a drawing, into a table of `lent` records
pub record ReportsFaults (top bottom : List ℕ) (w t : ℕ) (D : List ℕ) (lent : ℕ) : Type 0 where
  -- with a table that is long enough: the checker's number, place, column and row
  pub own : 256 ≤ lent
      → (reporting.number_of (reporting.reported top bottom (Given w t) D lent) ≡ checking.number_of (checking.checked top bottom w t D))
      × ((reporting.fault_of (reporting.reported top bottom (Given w t) D lent)).place ≡ checking.place_of (checking.checked top bottom w t D))
      × ((reporting.fault_of (reporting.reported top bottom (Given w t) D lent)).column ≡ checking.fault_column (checking.checked top bottom w t D))
      × ((reporting.fault_of (reporting.reported top bottom (Given w t) D lent)).row ≡ checking.fault_row (checking.checked top bottom w t D))
  -- with a shorter one: the rows' number or 9, without a place
  pub short : lent < 256
      → ((reporting.fault_of (reporting.reported top bottom (Given w t) D lent)).place ≡ 0)
      × ((reporting.fault_of (reporting.reported top bottom (Given w t) D lent)).column ≡ 0)
      × ((reporting.fault_of (reporting.reported top bottom (Given w t) D lent)).row ≡ 0)
