-- What the lent slices hold after a call, and the column that is handed back. Assumes nothing.
use Prim.Native.Nat.{ℕ, ◌+◌, ◌*◌, ◌-◌, ◌≤◌}
use mathlib.Core.Path.{◌≡◌, refl, sym, ap, ◌∙◌}
use mathlib.Core.Logic.{◌≢◌, ◌⊎◌, inl, inr, ⊎_elim, by_cases}
use mathlib.Core.List.{List, [], ◌++◌}
use native.Mathlib.Omega.{arith}
use native.Mathlib.Decide.{dec_lt, ℕ_discrete}
use lib.ListN.{length, drop, length-drop}
use lib.Seq.{length-take-le}
use Rattle.grid.specs.Refusals.{if_accepted, number_of}
use Rattle.grid.specs.declared.NetFacts.{NetFacts}
use Rattle.grid.specs.declared.Part.{Part}
use Rattle.grid.specs.Grid.{column_of}
use Rattle.grid.specs.View.{column_part, column_view, part_of, no_part}
use Rattle.grid.specs.Channel.{pins}
use Rattle.grid.specs.Nets.{first_column, last_column, table}
use Rattle.grid.specs.Answers as counting
use Rattle.grid.proofs.Answers.{check_number, rows_answer, table_answer, accepted_new, accepted_old}
use Rattle.grid.proofs.Rows.{rows_fit}
use Rattle.grid.proofs.Views.{part_end, too_wide, too_tall, wrong_size_lem, no_column, past_last, found}
use Rattle.router.proofs.Answered.{answer-number, written_refused, written_drawn}
use Rattle.report.specs.declared.NetRecord.{NetRecord}
use Rattle.report.specs.declared.Drawing.{Drawing}
use Rattle.report.specs.declared.Drawing.TheVariants.{Absent, Given}
use Rattle.report.specs.Report as reporting
use Rattle.report.proofs.Answers as report
use Rattle.report.proofs.Contents.{record_at, record_kept, table_lengths, unused}
use Rattle.record.specs.Record as reading
use Rattle.record.specs.Record.{top_row, bottom_row, laid}
use Rattle.listing.specs.Listing as listing
use Rattle.listing.proofs.Records.{listed-number, output_text, output-line}
use Rattle.canonical.specs.Canonical as spelling
use Rattle.canonical.proofs.Answers as spell
use Rattle.demands.specs.Slices.{LeavesSlices, LeavesNetRecords, LeavesLengths, LeavesRecord, NoColumn, Shows}

-- what the writing of the one spelling leaves
write_refused_lem : (top bottom old : List ℕ) → number_of (spelling.answer top bottom (length old)) ≢ 0 → spelling.bytes_after top bottom old ≡ old
unfolding spelling.bytes_after
write_refused_lem top bottom old n = accepted_old (spelling.refused top bottom (length old)) _ old (λ z. n (spell.answer-number top bottom (length old) ∙ z))

record_written : (top bottom old : List ℕ) → number_of (spelling.answer top bottom (length old)) ≡ 0
    → spelling.bytes_after top bottom old ≡ spelling.canonical top bottom ++ drop (6 + 4 * length top) old
record_written top bottom old e =
    let (r, h) = spell.none_refused top bottom (length old) (sym (spell.answer-number top bottom (length old)) ∙ e) in
    spell.bytes_new top bottom old r h ∙ ap (λ (k : ℕ). spelling.canonical top bottom ++ drop k old) (spell.canonical-length top bottom (rows_fit top bottom r).same)

-- what one table of the answer with the net facts leaves
told_after : (top bottom : List ℕ) (most : ℕ) (of : NetFacts → List ℕ) (old : List ℕ)
    → counting.table_or of old (counting.facts_check top bottom most)
    ≡ if_accepted (number_of (counting.row_check top bottom most)) (of (counting.accepted_facts top bottom)) old
told_after top bottom most of old =
    table_answer top bottom most of old ∙ ap (λ (k : ℕ). if_accepted k (of (counting.accepted_facts top bottom)) old) (sym (check_number top bottom most))

-- for all rows
pub leaves : (top bottom : List ℕ) → LeavesSlices top bottom
leaves top bottom =
    record {
      route_refused = λ most old n. written_refused top bottom most old (λ z. n (answer-number top bottom most (length old) ∙ z));
      report_refused = λ drawing D old n. report.table_of_refusal top bottom drawing D old (λ z. n (report.number top bottom drawing D (length old) ∙ z));
      facts_refused = λ most old n.
          let k = number_of (counting.row_check top bottom most) in
          (accepted_old k (table (first_column top bottom)) old n, accepted_old k (table (last_column top bottom)) old n, accepted_old k (table (pins top bottom)) old n);
      write_refused = write_refused_lem top bottom;
      route_drawn = λ most old e. written_drawn top bottom most old (sym (answer-number top bottom most (length old)) ∙ e);
      report_filled = λ drawing D old e. report.table_filled top bottom drawing D old (sym (report.number top bottom drawing D (length old)) ∙ e);
      facts_filled = λ most old e.
          let k = number_of (counting.row_check top bottom most) in
          (accepted_new k (table (first_column top bottom)) old e, accepted_new k (table (last_column top bottom)) old e, accepted_new k (table (pins top bottom)) old e);
      facts_told = λ most old.
          (told_after top bottom most (λ f. f.first) old, told_after top bottom most (λ f. f.last) old, told_after top bottom most (λ f. f.pins) old);
      facts_rows = rows_answer top bottom;
      written = record_written top bottom;
    }

-- for all tables of records
module _ (top bottom : List ℕ) (old : List NetRecord) (d : NetRecord) where
  -- an accepted report
  let_through : (drawing : Drawing) (D : List ℕ) → reporting.number_of (reporting.reported top bottom drawing D (length old)) ≡ 0
      → reporting.refused top bottom drawing D (length old) ≡ 0
  let_through drawing D e = sym (report.number top bottom drawing D (length old)) ∙ e

  pub leaves_net_records : (drawing : Drawing) (D : List ℕ) → LeavesNetRecords top bottom drawing D old d
  leaves_net_records drawing D =
      record {
        each = λ e. record_at top bottom drawing D old d (let_through drawing D e);
        unused = λ e.
            let (r, l, p) = report.accepted_report top bottom drawing D (length old) (let_through drawing D e) in
            unused top bottom drawing D r p;
        kept = record_kept top bottom drawing D old d;
      }

  pub leaves_lengths : LeavesLengths top bottom old d
  leaves_lengths =
      record {
        without = λ D e k h. ap (λ (r : NetRecord). r.length) (record_at top bottom Absent D old d (let_through Absent D e) k h);
        add_up = λ w t D e. table_lengths top bottom w t D old d (let_through (Given w t) D e);
      }

-- for all bytes
pub leaves_record : (s : List ℕ) → LeavesRecord s
leaves_record s =
    let k = number_of (reading.record_read s) in
    let j = number_of (listing.listed s) in
    record {
      rows_refused = λ old n. (accepted_old k (laid (top_row s) old) old n, accepted_old k (laid (bottom_row s) old) old n);
      rows_read = λ old e. (accepted_new k (laid (top_row s) old) old e, accepted_new k (laid (bottom_row s) old) old e);
      text_refused = λ old n. accepted_old j (laid (listing.text_of s) old) old n;
      text_listed = λ old e. accepted_new j (laid (listing.text_of s) old) old e;
      output_listed = λ e. sym (output_text s j (listed-number s) e);
      output_refused = λ n. sym (output-line s j (listed-number s) n);
    }

-- for all layouts
module _ (D : List ℕ) (w t c : ℕ) where
  -- the column by its part
  of_part : (p : Part) → p ≡ column_part (length D) w t c → column_view D w t c ≡ part_of D p
  unfolding column_view
  of_part p e = ap (λ (q : Part). part_of D q) (sym e)

  -- a test that comes first
  first : {A B C : Type 0} → Dec A → (A → C) → ((A → ⊥) → B → C) → A ⊎ B → C
  first {A} {B} {C} (yes a) f g s = f a
  first {A} {B} {C} (no n) f g s = ⊎_elim (λ (a : A). absurd (n a)) (λ (b : B). g n b) s

  none : NoColumn D w t c → column_view D w t c ≡ []
  none =
      first (dec_lt 511 w) (λ h. of_part no_part (too_wide (length D) w t c h)) (λ a.
      first (dec_lt 511 t) (λ h. of_part no_part (too_tall (length D) w t c (omega (arith, a)) h)) (λ b.
      first (dec_ne (length D) (w * (2 * t + 1))) (λ h. of_part no_part (wrong_size_lem (length D) w t c (omega (arith, a)) (omega (arith, b)) h)) (λ e.
      first (dec_lt c 1) (λ h. of_part no_part (no_column (length D) w t c (omega (arith, a)) (omega (arith, b)) (same e) h)) (λ f h.
      of_part no_part (past_last (length D) w t c (omega (arith, a)) (omega (arith, b)) (same e) (omega (arith, f)) h)))))
    where
      same : ((length D ≢ w * (2 * t + 1)) → ⊥) → length D ≡ w * (2 * t + 1)
      same n = by_cases (ℕ_discrete (length D) (w * (2 * t + 1))) (λ e. e) (λ m. absurd (n m))

      dec_ne : (x y : ℕ) → Dec (x ≢ y)
      dec_ne x y = by_cases (ℕ_discrete x y) (λ e. no (λ n. n e)) (λ n. yes n)

  shown : (NoColumn D w t c → ⊥) → (column_view D w t c ≡ column_of D t (c - 1)) × (length (column_view D w t c) ≡ 2 * t + 1)
  shown n =
      let a : w ≤ 511 = by_cases (dec_lt 511 w) (λ h. absurd (n (inl h))) (λ h. omega (arith, h)) in
      let b : t ≤ 511 = by_cases (dec_lt 511 t) (λ h. absurd (n (inr (inl h)))) (λ h. omega (arith, h)) in
      let e : length D ≡ w * (2 * t + 1) = by_cases (ℕ_discrete (length D) (w * (2 * t + 1))) (λ q. q) (λ m. absurd (n (inr (inr (inl m))))) in
      let f : 1 ≤ c = by_cases (dec_lt c 1) (λ h. absurd (n (inr (inr (inr (inl h)))))) (λ h. omega (arith, h)) in
      let g : c ≤ w = by_cases (dec_lt w c) (λ h. absurd (n (inr (inr (inr (inr h)))))) (λ h. omega (arith, h)) in
      let v = of_part (record { offset = (c - 1) * (2 * t + 1); length = 2 * t + 1 }) (found (length D) w t c a b e f _ refl g) in
      let x = part_end c w (2 * t + 1) f g in
      (v, ap length v ∙ length-take-le (2 * t + 1) (drop ((c - 1) * (2 * t + 1)) D) (omega (arith, x, e, length-drop ((c - 1) * (2 * t + 1)) D)))

pub shows : (D : List ℕ) (w t c : ℕ) → Shows D w t c
shows D w t c = record { none = none D w t c; shown = shown D w t c }
