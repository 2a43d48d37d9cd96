-- The first demand, of the lent slices: after a refused call each is as it was; after an accepted one the drawing stands in the first entries and the old
-- contents behind it. Each call's promise gives the final contents of what it is lent by the definitions named here.
use Rattle.std.specs.Prelude.{ℕ, ◌+◌, ◌*◌, ◌-◌, ◌≤◌, ◌<◌, ◌≡◌, ◌≢◌, ◌⊎◌, List, [], ◌++◌, length, drop, get_or}
use Rattle.grid.specs.Channel.{sum, pins}
use Rattle.grid.specs.Nets.{first_column, last_column, table}
use Rattle.grid.specs.Refusals.{if_accepted, number_of}
use Rattle.grid.specs.Answers as counting
use Rattle.grid.specs.Grid.{column_of}
use Rattle.grid.specs.View.{column_view}
use Rattle.router.specs.Answers.{layout}
use Rattle.router.specs.Answers as routing
use Rattle.report.specs.declared.NetRecord.{NetRecord}
use Rattle.report.specs.declared.Drawing.{Drawing}
use Rattle.report.specs.declared.Drawing.TheVariants.{Absent, Given}
use Rattle.report.specs.Length.{edges_drawn}
use Rattle.report.specs.Report as reporting
use Rattle.record.specs.Record as reading
use Rattle.record.specs.Record.{top_row, bottom_row, laid}
use Rattle.listing.specs.Listing as listing
use Rattle.listing.specs.Text.{refusal}
use Rattle.canonical.specs.Canonical as spelling

-- WHAT THE CALLS ON ROWS LEAVE
-- of a table of the net facts that held `old`: that of the figure f of each net, or the old contents
abbrev pub fact_after : (top bottom : List ℕ) (f : ℕ → ℕ) (most : ℕ) (old : List ℕ) → List ℕ
fact_after top bottom f most old = if_accepted (number_of (counting.row_check top bottom most)) (table f) old

pub record LeavesSlices (top bottom : List ℕ) : Type 0 where
  -- "A refused call writes to no lent slice or table": routing, the net report, the three tables of the net facts, and the writing of the one spelling
  pub route_refused : (most : ℕ) (old : List ℕ) → number_of (routing.answer top bottom most (length old)) ≢ 0 → routing.written top bottom most old ≡ old
  pub report_refused : (drawing : Drawing) (D : List ℕ) (old : List NetRecord) → reporting.number_of (reporting.reported top bottom drawing D (length old)) ≢ 0
      → reporting.table_after top bottom drawing D old ≡ old
  pub facts_refused : (most : ℕ) (old : List ℕ) → number_of (counting.row_check top bottom most) ≢ 0
      → (fact_after top bottom (first_column top bottom) most old ≡ old)
      × (fact_after top bottom (last_column top bottom) most old ≡ old)
      × (fact_after top bottom (pins top bottom) most old ≡ old)
  pub write_refused : (old : List ℕ) → number_of (spelling.answer top bottom (length old)) ≢ 0 → spelling.bytes_after top bottom old ≡ old
  -- an accepted one writes the drawing, the 256 records, the tables, or the record's bytes, and keeps what stands behind
  pub route_drawn : (most : ℕ) (old : List ℕ) → number_of (routing.answer top bottom most (length old)) ≡ 0
      → routing.written top bottom most old ≡ layout top bottom ++ drop (length (layout top bottom)) old
  pub report_filled : (drawing : Drawing) (D : List ℕ) (old : List NetRecord) → reporting.number_of (reporting.reported top bottom drawing D (length old)) ≡ 0
      → reporting.table_after top bottom drawing D old ≡ reporting.records top bottom drawing D ++ drop 256 old
  pub facts_filled : (most : ℕ) (old : List ℕ) → number_of (counting.row_check top bottom most) ≡ 0
      → (fact_after top bottom (first_column top bottom) most old ≡ table (first_column top bottom))
      × (fact_after top bottom (last_column top bottom) most old ≡ table (last_column top bottom))
      × (fact_after top bottom (pins top bottom) most old ≡ table (pins top bottom))
  -- the call with the net facts gives its tables in its answer, and none where it refuses: so these are what a table that held `old` holds once one is put there
  pub facts_told : (most : ℕ) (old : List ℕ)
      → (counting.table_or (λ f. f.first) old (counting.facts_check top bottom most) ≡ fact_after top bottom (first_column top bottom) most old)
      × (counting.table_or (λ f. f.last) old (counting.facts_check top bottom most) ≡ fact_after top bottom (last_column top bottom) most old)
      × (counting.table_or (λ f. f.pins) old (counting.facts_check top bottom most) ≡ fact_after top bottom (pins top bottom) most old)
  -- and the row check stands in that answer
  pub facts_rows : (most : ℕ) → counting.rows_of (counting.facts_check top bottom most) ≡ counting.row_check top bottom most
  -- document 02, Job 6: "Bytes behind the record keep their contents"
  pub written : (old : List ℕ) → number_of (spelling.answer top bottom (length old)) ≡ 0
      → spelling.bytes_after top bottom old ≡ spelling.canonical top bottom ++ drop (6 + 4 * length top) old

-- THE RECORDS that an accepted net report leaves in a table that held `old`; d serves for what lies past the table's end
pub record LeavesNetRecords (top bottom : List ℕ) (drawing : Drawing) (D : List ℕ) (old : List NetRecord) (d : NetRecord) : Type 0 where
  -- "one per number 1 to 256", "zeros for an unused number"
  pub each : reporting.number_of (reporting.reported top bottom drawing D (length old)) ≡ 0
      → (k : ℕ) → k < 256 → get_or (reporting.table_after top bottom drawing D old) k d ≡ reporting.record_of top bottom drawing D (k + 1)
  pub unused : reporting.number_of (reporting.reported top bottom drawing D (length old)) ≡ 0
      → (v : ℕ) → v ≢ 0 → pins top bottom v ≡ 0 → reporting.record_of top bottom drawing D v ≡ record { first = 0; last = 0; pins = 0; length = 0 }
  -- "Records after the 256th keep their contents", also after a refusal
  pub kept : (k : ℕ) → 256 ≤ k → get_or (reporting.table_after top bottom drawing D old) k d ≡ get_or old k d

-- document 02, Job 2: "The net record gains a length, filled in from a drawing"
pub record LeavesLengths (top bottom : List ℕ) (old : List NetRecord) (d : NetRecord) : Type 0 where
  -- "the report without a drawing puts 0 there"
  pub without : (D : List ℕ) → reporting.number_of (reporting.reported top bottom Absent D (length old)) ≡ 0
      → (k : ℕ) → k < 256 → (get_or (reporting.table_after top bottom Absent D old) k d).length ≡ 0
  -- "The lengths of the first 256 records add up to the number of entries that are not 0": record v - 1 is that of the number v
  pub add_up : (w t : ℕ) (D : List ℕ) → reporting.number_of (reporting.reported top bottom (Given w t) D (length old)) ≡ 0
      → sum (λ v. (get_or (reporting.table_after top bottom (Given w t) D old) (v - 1) d).length) 256 ≡ edges_drawn D

-- WHAT THE CALLS ON A RECORD LEAVE, of rows and a text that held `old`
pub record LeavesRecord (s : List ℕ) : Type 0 where
  pub rows_refused : (old : List ℕ) → number_of (reading.record_read s) ≢ 0
      → (if_accepted (number_of (reading.record_read s)) (laid (top_row s) old) old ≡ old)
      × (if_accepted (number_of (reading.record_read s)) (laid (bottom_row s) old) old ≡ old)
  pub rows_read : (old : List ℕ) → number_of (reading.record_read s) ≡ 0
      → (if_accepted (number_of (reading.record_read s)) (laid (top_row s) old) old ≡ top_row s ++ drop (length (top_row s)) old)
      × (if_accepted (number_of (reading.record_read s)) (laid (bottom_row s) old) old ≡ bottom_row s ++ drop (length (bottom_row s)) old)
  pub text_refused : (old : List ℕ) → number_of (listing.listed s) ≢ 0
      → if_accepted (number_of (listing.listed s)) (laid (listing.text_of s) old) old ≡ old
  pub text_listed : (old : List ℕ) → number_of (listing.listed s) ≡ 0
      → if_accepted (number_of (listing.listed s)) (laid (listing.text_of s) old) old ≡ listing.text_of s ++ drop (length (listing.text_of s)) old
  -- what `knee` writes: the listing; "On refusal it writes one line, as `refused 7`"
  pub output_listed : number_of (listing.listed s) ≡ 0 → listing.output s ≡ listing.text_of s
  pub output_refused : number_of (listing.listed s) ≢ 0 → listing.output s ≡ refusal (number_of (listing.listed s))

-- ONE COLUMN'S ENTRIES. "an empty part if w or t is over 511, the length is not w × (2t + 1), or the column is not 1 to w"
abbrev pub NoColumn : (D : List ℕ) (w t c : ℕ) → Type 0
NoColumn D w t c = (511 < w) ⊎ ((511 < t) ⊎ ((length D ≢ w * (2 * t + 1)) ⊎ ((c < 1) ⊎ (w < c))))

-- "One column's entries are handed back as that part of the caller's layout slice"
pub record Shows (D : List ℕ) (w t c : ℕ) : Type 0 where
  pub none : NoColumn D w t c → column_view D w t c ≡ []
  pub shown : (NoColumn D w t c → ⊥) → (column_view D w t c ≡ column_of D t (c - 1)) × (length (column_view D w t c) ≡ 2 * t + 1)
