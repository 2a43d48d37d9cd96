-- The first demand is met: the numbers, the zeros and the places. Assumes nothing.
use Prim.Native.Nat.{ℕ, ◌+◌, ◌*◌, ◌≤◌, ◌<◌, min}
use mathlib.Core.Path.{◌≡◌, refl, sym, subst, ap, ◌∙◌}
use mathlib.Core.Logic.{◌⊎◌, inl, inr}
use mathlib.Core.List.{List}
use native.Mathlib.Omega.{arith}
use lib.Dec.{ltb}
use lib.ListN.{length}
use Rattle.grid.specs.Channel.{pick, rows_refused}
use Rattle.grid.specs.Refusals.{first_refusal, number_of}
use Rattle.grid.specs.Answers as counting
use Rattle.grid.proofs.Answers.{check_number, check_figures, facts-number, density-number, density_figure, rows_answer, accepted_old, no_later}
use Rattle.router.specs.Answers as routing
use Rattle.router.proofs.Answered.{need_number, need_entries, answer-number, answer_figures}
use Rattle.checker.specs.declared.Told.{Told}
use Rattle.checker.specs.Check as checking
use Rattle.checker.specs.Check.{pin_fault}
use Rattle.checker.specs.Faults.{PinWrong, Unwired, Miswired, Unpinned, FaultAt}
use Rattle.checker.proofs.Answers.{check_parts, no_place_else, no_point_else}
use Rattle.checker.proofs.Terminals.{unwired_14, miswired_19, unpinned_20, PinFault, is_14, is_19, is_20, pin_fault_by}
use Rattle.checker.proofs.Places.{fault_number, fault_words}
use Rattle.report.specs.declared.Drawing.{Drawing}
use Rattle.report.specs.declared.Drawing.TheVariants.{Absent, Given}
use Rattle.report.specs.Report as reporting
use Rattle.report.proofs.Answers as report
use Rattle.record.specs.Record as reading
use Rattle.record.specs.Record.{top_row, bottom_row}
use Rattle.record.proofs.Refusals.{numbered, columns_by}
use Rattle.listing.specs.Listing as listing
use Rattle.listing.proofs.Records.{listed-number, listed-length}
use Rattle.canonical.specs.Canonical as spelling
use Rattle.canonical.proofs.Answers as spell
use Rattle.demands.specs.Table.{First, end, line, of_record, of_rows, of_layout, of_net_table, of_drawing, of_reported, of_output}
use Rattle.demands.specs.Refusals.{Refuses, RefusesRecord, Zeros, ZerosRecord, Places, OneFault, LooseEnds, ReportsFaults}
use Rattle.demands.proofs.Lines.{rows_lines, rows_first, slice_first, table-lines, record_lines}
use Rattle.demands.proofs.Drawings.{drawing_lines, strange-least, fault_least, last-least, split-least, loose_least, loose_point}

-- THE NUMBERS
module _ (top bottom : List ℕ) where
  -- a limit of columns, at most 256
  within : (most : ℕ) → min most 256 ≤ 256
  within most = omega arith

  -- the rows, then a slice of which `asked` entries are asked for
  pub slice_lines : (most asked lent : ℕ)
      → First (of_rows top bottom (min most 256) (line 8 (lent < asked) end)) (first_refusal (counting.refused_within top bottom most) (pick (ltb lent asked) 8 0))
  slice_lines most asked lent = rows_lines top bottom (min most 256) (within most) _ _ (λ e. slice_first 8 asked lent)

  pub route_first : (most lent : ℕ)
      → First (of_rows top bottom (min most 256) (of_layout top bottom lent)) (number_of (routing.answer top bottom most lent))
  unfolding routing.refused routing.slice_length
  route_first most lent =
      subst (λ (k : ℕ). First (of_rows top bottom (min most 256) (of_layout top bottom lent)) k) (sym (answer-number top bottom most lent)) (slice_lines most _ lent)

  -- the lines of a report's drawing
  reported-lines : rows_refused top bottom 256 ≡ 0 → (drawing : Drawing) (D : List ℕ) → First (of_reported top bottom drawing D) (reporting.drawing_number top bottom drawing D)
  unfolding First
  reported-lines e Absent D = refl
  reported-lines e (Given w t) D = drawing_lines top bottom w t D e

  report_first : (drawing : Drawing) (D : List ℕ) (lent : ℕ)
      → First (of_rows top bottom 256 (of_net_table lent (of_reported top bottom drawing D))) (reporting.refused top bottom drawing D lent)
  unfolding reporting.refused
  report_first drawing D lent = rows_lines top bottom 256 (omega arith) _ _ (λ e. table-lines lent _ _ (reported-lines e drawing D))

  check_first : (w t : ℕ) (D : List ℕ) → First (of_rows top bottom 256 (of_drawing top bottom w t D)) (checking.refused top bottom w t D)
  unfolding checking.refused
  check_first w t D = rows_lines top bottom 256 (omega arith) _ _ (λ e. drawing_lines top bottom w t D e)

  write_first : (lent : ℕ) → First (of_rows top bottom 256 (of_output top bottom lent)) (spelling.refused top bottom lent)
  unfolding spelling.refused
  write_first lent = rows_lines top bottom 256 (omega arith) _ _ (λ e. slice_first 18 (6 + 4 * length top) lent)

  -- for all rows
  pub refuses : Refuses top bottom
  refuses =
      record {
        rows = λ most.
            subst (λ (k : ℕ). First (of_rows top bottom (min most 256) end) k) (sym (check_number top bottom most))
            (rows_first top bottom (min most 256) (within most));
        facts = λ most.
            subst (λ (k : ℕ). First (of_rows top bottom (min most 256) end) k) (sym (facts-number top bottom most))
            (rows_first top bottom (min most 256) (within most));
        density = subst (λ (k : ℕ). First (of_rows top bottom 256 end) k) (sym (density-number top bottom)) (rows_first top bottom 256 (omega arith));
        need = subst (λ (k : ℕ). First (of_rows top bottom 256 end) k) (sym (need_number top bottom)) (rows_first top bottom 256 (omega arith));
        route = route_first;
        check = λ w t D.
            subst (λ (k : ℕ). First (of_rows top bottom 256 (of_drawing top bottom w t D)) k) (sym (check_parts top bottom w t D).0) (check_first w t D);
        report = λ drawing D lent.
            subst (λ (k : ℕ). First (of_rows top bottom 256 (of_net_table lent (of_reported top bottom drawing D))) k) (sym (report.number top bottom drawing D lent))
            (report_first drawing D lent);
        write = λ lent.
            subst (λ (k : ℕ). First (of_rows top bottom 256 (of_output top bottom lent)) k) (sym (spell.answer-number top bottom lent)) (write_first lent);
      }

  -- THE ZEROS
  pub zeros : Zeros top bottom
  zeros =
      record {
        rows = λ most n. check_figures top bottom most ∙ accepted_old _ _ counting.no_size (λ z. n (check_number top bottom most ∙ z));
        facts = λ most n.
            ap counting.size_of (rows_answer top bottom most) ∙ check_figures top bottom most
            ∙ accepted_old _ _ counting.no_size (λ z. n (facts-number top bottom most ∙ z));
        density = λ n. density_figure top bottom ∙ accepted_old _ _ 0 (λ z. n (density-number top bottom ∙ z));
        need = λ n. need_entries top bottom ∙ accepted_old _ _ 0 (λ z. n (need_number top bottom ∙ z));
        route = λ most lent n. answer_figures top bottom most lent ∙ accepted_old _ _ routing.no_figures (λ z. n (answer-number top bottom most lent ∙ z));
        write = λ lent n. spell.answer-length top bottom lent ∙ accepted_old _ _ 0 (λ z. n (spell.answer-number top bottom lent ∙ z));
      }

  -- THE PLACES
  pub places : (w t : ℕ) (D : List ℕ) → Places top bottom w t D
  places w t D =
      let (n, p, c, r) = check_parts top bottom w t D in
      record {
        strange = λ e. strange-least top bottom w t D _ (sym n ∙ e) p;
        unwired = λ e. fault_least top bottom w t D _ unwired_14 is_14 (sym n ∙ e) p;
        miswired = λ e. fault_least top bottom w t D _ miswired_19 is_19 (sym n ∙ e) p;
        unpinned = λ e. fault_least top bottom w t D _ unpinned_20 is_20 (sym n ∙ e) p;
        last = λ e. last-least top bottom w t D _ (sym n ∙ e) p;
        split = λ e. split-least top bottom w t D _ (sym n ∙ e) p;
        loose = λ e. loose_least top bottom w t D _ (sym n ∙ e) p;
        other = λ o. p ∙ no_place_else top bottom w t D _ (subst (λ (k : ℕ). (k < 13) ⊎ ((k ≡ 18) ⊎ (20 < k))) n o);
      }

  -- the fault of a wrong pin edge
  pub one_fault : (w t : ℕ) (D : List ℕ) (p : ℕ) → OneFault top bottom w t D p
  one_fault w t D p =
      record {
        some = λ W. go W (pin_fault top bottom t D p) (pin_fault_by top bottom t D p) refl;
        unwired_alone = λ f. (
          λ g. omega (arith, fault_number top bottom w t D p unwired_14 f, fault_number top bottom w t D p miswired_19 g),
          λ g. omega (arith, fault_number top bottom w t D p unwired_14 f, fault_number top bottom w t D p unpinned_20 g),
        );
        miswired_alone = λ f g. omega (arith, fault_number top bottom w t D p miswired_19 f, fault_number top bottom w t D p unpinned_20 g);
      }
    where
      go :
          PinWrong top bottom w t D p → (n : ℕ) → PinFault n → pin_fault top bottom t D p ≡ n
          → FaultAt Unwired top bottom w t D p ⊎ (FaultAt Miswired top bottom w t D p ⊎ FaultAt Unpinned top bottom w t D p)
      go W n is_14 e = inl (fault_words top bottom w t D p unwired_14 W e)
      go W n is_19 e = inr (inl (fault_words top bottom w t D p miswired_19 W e))
      go W n is_20 e = inr (inr (fault_words top bottom w t D p unpinned_20 W e))

  -- the loose ends
  pub loose_ends : (w t : ℕ) (D : List ℕ) → LooseEnds top bottom w t D
  loose_ends w t D =
      let (n, p, c, r) = check_parts top bottom w t D in
      record {
        first = λ e. loose_point top bottom w t D _ (sym n ∙ e) p _ _ c r;
        other = λ o. let (i, j) = no_point_else top bottom w t D _ (λ z. o (n ∙ z)) in (c ∙ i, r ∙ j);
      }

  -- THE REPORT ON A DRAWING
  pub reports_faults : (w t : ℕ) (D : List ℕ) (lent : ℕ) → ReportsFaults top bottom w t D lent
  reports_faults w t D lent =
      let (n, p, c, r) = check_parts top bottom w t D in
      let e = report.own_fault top bottom w t D lent in
      let z = report.short_fault top bottom (Given w t) D lent in
      record {
        own = λ h. (ap (λ (f : Told). f.number) (e h) ∙ sym n, ap (λ (f : Told). f.place) (e h) ∙ sym p, ap (λ (f : Told). f.column) (e h) ∙ sym c, ap (λ (f : Told). f.row) (e h) ∙ sym r);
        short = λ h. (ap (λ (f : Told). f.place) (z h), ap (λ (f : Told). f.column) (z h), ap (λ (f : Told). f.row) (z h));
      }

-- A RECORD
module _ (s : List ℕ) where
  read_first : First (of_record s end) (reading.record_refused s)
  unfolding First
  read_first = subst (λ (k : ℕ). First (of_record s end) k) (no_later (reading.record_refused s)) (record_lines s 0 end refl)

  pub list_first : First (of_record s (of_rows (top_row s) (bottom_row s) 64 end)) (number_of (listing.listed s))
  unfolding listing.refused
  list_first =
      subst (λ (k : ℕ). First (of_record s (of_rows (top_row s) (bottom_row s) 64 end)) k) (sym (listed-number s))
      (record_lines s _ _ (rows_first (top_row s) (bottom_row s) 64 (omega arith)))

  -- for all bytes
  pub refuses_record : RefusesRecord s
  refuses_record = record { read = subst (λ (k : ℕ). First (of_record s end) k) (sym (numbered s)) read_first; list = list_first }

  pub zeros_record : ZerosRecord s
  zeros_record =
      record {
        read = λ n. columns_by s (reading.record_read s) refl ∙ accepted_old _ _ 0 n;
        list = λ n. listed-length s ∙ accepted_old _ _ 0 (λ z. n (listed-number s ∙ z));
      }
