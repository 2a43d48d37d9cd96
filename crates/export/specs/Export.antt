-- Document 01, "Refused, by place": the answers of the calls as numbers. "A refusal returns its number and zeros for density, tracks, width, slice
-- length and every other figure but the place."; "The number on acceptance is 0": each number and figure is the one that the answer's own library gives
-- for its cases.
use Rattle.std.specs.Prelude.{ℕ, ◌/◌, List, [], ◌∷◌, ◌++◌, length as size, drop, Result}
use Rattle.grid.specs.declared.refusals.Refusal.{Refusal}
use Rattle.grid.specs.Refusals.{if_accepted, number_of, answer_of}
use Rattle.grid.specs.Answers.{count_density}
use Rattle.router.specs.declared.Figures.{Figures}
use Rattle.router.specs.Answers.{figures_of, entries_of}
use Rattle.checker.specs.declared.Told.{Told}
use Rattle.checker.specs.Check.{Checked, told_of}
use Rattle.report.specs.declared.NetRecord.{NetRecord}
use Rattle.report.specs.declared.Drawing.{Drawing}
use Rattle.report.specs.Report.{Reported, records, refused, fault_of}
use Rattle.listing.specs.Listing.{length_of}
use Rattle.canonical.specs.Canonical.{length_of as written_length}
use Rattle.widest.specs.Widest.{columns_of}
use Rattle.stepwise.specs.declared.Started.{Started}
use Rattle.stepwise.specs.declared.Stepped.{Stepped}
use Rattle.stepwise.specs.Sweep.{start_figures, step_figures}
use Rattle.export.specs.declared.sweeps.StartResult.{StartResult}
use Rattle.export.specs.declared.sweeps.StepResult.{StepResult}
use Rattle.export.specs.declared.DensityResult.{DensityResult}
use Rattle.export.specs.declared.NeedResult.{NeedResult}
use Rattle.export.specs.declared.RouteResult.{RouteResult}
use Rattle.export.specs.declared.CheckResult.{CheckResult}
use Rattle.export.specs.declared.ListResult.{ListResult}
use Rattle.export.specs.declared.CanonicalResult.{CanonicalResult}
use Rattle.export.specs.declared.WidestResult.{WidestResult}

-- the density
abbrev pub density_of : Result ℕ Refusal → DensityResult
density_of a = record { number = number_of a; density = count_density a }

-- the slice length that a routing call needs
abbrev pub need_of : Result ℕ Refusal → NeedResult
need_of a = record { number = number_of a; length = entries_of a }

-- the figures of a routing call
abbrev pub route_of : Result Figures Refusal → RouteResult
route_of a =
    record { number = number_of a; density = (figures_of a).density; tracks = (figures_of a).tracks; width = (figures_of a).width }

-- number, place, column and row
abbrev pub told_by : Told → CheckResult
told_by f = record { number = f.number; place = f.place; column = f.column; row = f.row }

-- the checker's
abbrev pub checked_of : Checked → CheckResult
checked_of a = told_by (told_of a)

-- the net report's number, and the place, column and row of the checker's own refusal
abbrev pub report_of : Reported → CheckResult
report_of a = told_by (fault_of a)

-- the listing's number and the bytes of its text
abbrev pub list_of : Result ℕ Refusal → ListResult
list_of a = record { number = number_of a; length = length_of a }

-- the number of a record's writing, and its bytes
abbrev pub canonical_of : Result ℕ Refusal → CanonicalResult
canonical_of a = record { number = number_of a; length = written_length a }

-- the number of lent rows for the widest drawing, and the columns that it adds
abbrev pub widest_of : Result ℕ Refusal → WidestResult
widest_of a = record { number = number_of a; added = columns_of a }

-- the beginning of a driven sweep: its number, tracks and slice length
abbrev pub start_of : Result Started Refusal → StartResult
start_of a = record { number = number_of a; tracks = (start_figures a).tracks; length = (start_figures a).length }

-- and a step: its number, the columns drawn and whether all are
abbrev pub step_of : Result Stepped Refusal → StepResult
step_of a = record { number = number_of a; drawn = (step_figures a).drawn; finished = (step_figures a).finished }

-- the sweep's own answer that a step's number and figures tell
abbrev pub stepped_by : StepResult → Result Stepped Refusal
stepped_by r = answer_of r.number (record { drawn = r.drawn; finished = r.finished })

-- "one per number 1 to 256: first column, last column, pin count", and the length: a table of net records as numbers, four for each record
unfoldable pub flat : List NetRecord → List ℕ
flat [] = []
flat (x ∷ xs) = x.first ∷ x.last ∷ x.pins ∷ x.length ∷ flat xs

-- what the net report leaves in a table that held the numbers `old`, which are a quarter as many records; "Records after the 256th keep their contents"
unfoldable pub figures_after : (top bottom : List ℕ) → Drawing → (D old : List ℕ) → List ℕ
figures_after top bottom drawing D old =
    if_accepted (refused top bottom drawing D (size old / 4)) (flat (records top bottom drawing D) ++ drop 1024 old) old
