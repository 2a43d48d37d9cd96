-- Document 01, "Record and listing": the listing of a record.
use Rattle.std.specs.Prelude.{ℕ, List, length, Result}
use Rattle.grid.specs.Channel.{density, tracks, rows_refused}
use Rattle.grid.specs.declared.refusals.Refusal.{Refusal}
use Rattle.grid.specs.Refusals.{first_refusal, if_accepted, figures_or, answer_of}
use Rattle.record.specs.Record.{record_refused, top_row, bottom_row}
use Rattle.router.specs.Answers.{width, layout}
use Rattle.listing.specs.Text.{drawing_text, refusal}

-- the bytes of the text of an answer, 0 on refusal
abbrev pub length_of : Result ℕ Refusal → ℕ
length_of r = figures_or 0 r

-- the text of a channel: its figures and the columns of its drawing
abbrev pub channel_text : (top bottom : List ℕ) → List ℕ
channel_text top bottom = drawing_text (density top bottom) (tracks top bottom) (width top bottom) (layout top bottom)

module _ (s : List ℕ) where
  -- "Checked from the top down": the number of the record's refusal, else that of its rows, 0 for none; 5 is "in `knee` over 64" columns
  unfoldable pub refused : ℕ
  refused = first_refusal (record_refused s) (rows_refused (top_row s) (bottom_row s) 64)

  -- the text of a record that is not refused
  unfoldable pub text_of : List ℕ
  text_of = channel_text (top_row s) (bottom_row s)

  -- the answer to a record
  unfoldable pub listed : Result ℕ Refusal
  listed = answer_of refused (length text_of)

  -- what `knee` writes: the text; "On refusal it writes one line, as `refused 7`"
  unfoldable pub output : List ℕ
  output = if_accepted refused text_of (refusal refused)
