-- Document 01, "Refused, by place": the answers of the calls on rows, and the document's number and figures for each of their cases. "The number on
-- acceptance is 0"; a refusal gives "zeros for density … and every other figure".
use Rattle.std.specs.Prelude.{ℕ, min, List, length, Result, Ok, Err}
use Rattle.grid.specs.declared.Size.{Size}
use Rattle.grid.specs.declared.NetFacts.{NetFacts}
use Rattle.grid.specs.declared.Family.TheVariants.{TwoPin}
use Rattle.grid.specs.declared.refusals.Refusal.{Refusal}
use Rattle.grid.specs.Channel.{family, density, pins, rows_refused}
use Rattle.grid.specs.Nets.{first_column, last_column, table}
use Rattle.grid.specs.Refusals.{answer_of, figures_or}

-- THE FIGURES of an answer, zeros on refusal. Of the row check; refused rows have no family, and TwoPin stands there
abbrev pub no_size : Size
no_size = record { columns = 0; density = 0; family = TwoPin }

abbrev pub size_of : Result Size Refusal → Size
size_of r = figures_or no_size r

-- of the density call
abbrev pub count_density : Result ℕ Refusal → ℕ
count_density r = figures_or 0 r

-- OF AN ANSWER WITH THE FACTS OF THE NETS: the row check in it
abbrev pub rows_of : Result NetFacts Refusal → Result Size Refusal
rows_of (Ok f) = Ok f.size
rows_of (Err r) = Err r

-- and what a table that held `old` holds once one of its tables is put there: "A refused call writes to no lent slice or table"
abbrev pub table_or : (of : NetFacts → List ℕ) (old : List ℕ) → Result NetFacts Refusal → List ℕ
table_or of old (Ok f) = of f
table_or of old (Err r) = old

-- WHAT THEY ANSWER
module _ (top bottom : List ℕ) where
  -- the number for a limit of columns: 256, and 64 in `knee`. A limit over 256 stands for 256
  abbrev pub refused_within : (most : ℕ) → ℕ
  refused_within most = rows_refused top bottom (min most 256)

  -- the figures of accepted rows: the number of columns, the density, and the family
  abbrev pub accepted_size : Size
  accepted_size = record { columns = length top; density = density top bottom; family = family top bottom }

  -- the row check
  unfoldable pub row_check : (most : ℕ) → Result Size Refusal
  row_check most = answer_of (refused_within most) accepted_size

  -- the facts of accepted rows: these figures, and the first column, the last column and the pins of each net
  abbrev pub accepted_facts : NetFacts
  accepted_facts = record {
    size = accepted_size;
    first = table (first_column top bottom);
    last = table (last_column top bottom);
    pins = table (pins top bottom);
  }

  -- the row check with them
  unfoldable pub facts_check : (most : ℕ) → Result NetFacts Refusal
  facts_check most = answer_of (refused_within most) accepted_facts

  -- the density call
  unfoldable pub density_count : Result ℕ Refusal
  density_count = answer_of (rows_refused top bottom 256) (density top bottom)
