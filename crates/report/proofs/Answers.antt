-- The report's answer and the table after it, by the number of the refusal, and at each way out of the code. Assumes nothing.
use Prim.Native.Nat.{ℕ, zero, suc, ◌≤◌, ◌<◌}
use mathlib.Core.Path.{◌≡◌, refl, sym, ap, ◌∙◌}
use mathlib.Core.Bool.{Bool, true, false}
use mathlib.Core.Logic.{◌≢◌, inl}
use mathlib.Core.List.{List, ◌++◌}
use lib.Dec.{ltb}
use lib.ListN.{length, drop}
use native.Mathlib.Omega.{arith}
use Rattle.std.specs.Prelude.{Ok, Err}
use Rattle.std.proofs.Common.{rules}
use Rattle.grid.specs.declared.refusals.Refusal.{Refusal}
use Rattle.grid.specs.declared.refusals.Refusal.TheVariants.{TableTooShort}
use Rattle.grid.specs.Channel.{pick, rows_refused}
use Rattle.grid.specs.Refusals.{first_refusal, if_accepted, number as number_by, refusal}
use Rattle.grid.proofs.Numbers.{number_refusal, refusal_number, number_nonzero, pick_within, first_within}
use Rattle.grid.proofs.Answers.{first_past, first_here, accepted_old, rows_within}
use Rattle.grid.proofs.Tests.{Below, above, below_by, lt-ltb, le-ltb}
use Rattle.checker.specs.declared.Fault.{Fault}
use Rattle.checker.specs.declared.Told.{Told}
use Rattle.checker.specs.Check.{told, fault_at, checked_by, drawing_refused, place, column, row, checked}
use Rattle.checker.specs.Check as checking
use Rattle.checker.proofs.Answers.{no_place_else, no_point_else, rows_low, drawing_within}
use Rattle.report.specs.declared.NetRecord.{NetRecord}
use Rattle.report.specs.declared.Drawing.{Drawing}
use Rattle.report.specs.declared.Drawing.TheVariants.{Absent, Given}
use Rattle.report.specs.Report as reporting
use Rattle.report.specs.Report.{Reported, number_only, fault_of, answer_with, drawing_number, fault_with, records, refused, reported, table_after}
use Rattle.report.specs.Working.{drawing_reported}

-- WHAT IS TOLD OF A NUMBER

module _ (top bottom : List ℕ) (drawing : Drawing) (D : List ℕ) where
  -- below 13 the number alone
  fault_low : (k : ℕ) → k < 13 → number_only k ≡ fault_with top bottom drawing D k
  fault_low k h = go drawing
    where
      go : (d : Drawing) → number_only k ≡ fault_with top bottom d D k
      go Absent = refl
      go (Given w t) = let (c, r) = no_point_else top bottom w t D k (omega arith) in rw (no_place_else top bottom w t D k (inl h), c, r) refl

  -- it has the number
  fault_number : (k : ℕ) → (fault_with top bottom drawing D k).number ≡ k
  fault_number k = go drawing
    where
      go : (d : Drawing) → (fault_with top bottom d D k).number ≡ k
      go Absent = refl
      go (Given w t) = refl

  -- the table has the drawing's number
  drawing_number_within : drawing_number top bottom drawing D ≤ 24
  drawing_number_within = go drawing
    where
      go : (d : Drawing) → drawing_number top bottom d D ≤ 24
      go Absent = omega arith
      go (Given w t) = drawing_within top bottom w t D

  -- and the call's
  refused_within : (size : ℕ) → refused top bottom drawing D size ≤ 24
  unfolding refused
  refused_within size = search (rules, pick_within, first_within, rows_within, drawing_number_within) depth 12

  -- what an answer with a number tells
  pub fault_of-answer : (k : ℕ) → k ≤ 24 → fault_of (answer_with k (fault_with top bottom drawing D k)) ≡ fault_with top bottom drawing D k
  fault_of-answer zero l = fault_low 0 (omega arith)
  fault_of-answer (suc k) l =
      ap (λ (n : ℕ). record { number = n; place = (fault_with top bottom drawing D (suc k)).place; column = (fault_with top bottom drawing D (suc k)).column; row = (fault_with top bottom drawing D (suc k)).row })
      (number_refusal (suc k) (omega arith) l ∙ sym (fault_number (suc k)))

  -- what the answer tells
  pub fault_of-reported : (size : ℕ) → fault_of (reported top bottom drawing D size) ≡ fault_with top bottom drawing D (refused top bottom drawing D size)
  unfolding reported
  fault_of-reported size = fault_of-answer (refused top bottom drawing D size) (refused_within size)

  -- its number
  pub number : (size : ℕ) → reporting.number_of (reported top bottom drawing D size) ≡ refused top bottom drawing D size
  number size = ap (λ (f : Told). f.number) (fault_of-reported size) ∙ fault_number (refused top bottom drawing D size)

-- THE CHECKER'S ANSWER for a drawing of accepted rows is the report's
answers_alike : (k p c r : ℕ) → checked_by k p c r ≡ answer_with k (record { number = k; place = p; column = c; row = r })
answers_alike zero p c r = refl
answers_alike (suc k) p c r = refl

pub checker_reported : (top bottom : List ℕ) (w t : ℕ) (D : List ℕ) → rows_refused top bottom 256 ≡ 0
    → checked top bottom w t D ≡ drawing_reported top bottom (Given w t) D
unfolding checked checking.refused
checker_reported top bottom w t D z =
    let k = drawing_refused top bottom w t D in
    ap (λ (n : ℕ). let m = first_refusal n k in checked_by m (place top bottom w t D m) (column top bottom w t D m) (row top bottom w t D m)) z
    ∙ answers_alike k (place top bottom w t D k) (column top bottom w t D k) (row top bottom w t D k)

-- NUMBERS

module _ (top bottom : List ℕ) (drawing : Drawing) (D : List ℕ) (size : ℕ) where
  -- the rows' refusal comes first
  by_rows : rows_refused top bottom 256 ≢ 0 → rows_refused top bottom 256 ≡ refused top bottom drawing D size
  unfolding refused
  by_rows n = sym (first_here (rows_refused top bottom 256) _ n)

  -- for a table that is too short 9 comes after them, and no drawing is looked at
  by_short : size < 256 → first_refusal (rows_refused top bottom 256) 9 ≡ refused top bottom drawing D size
  unfolding refused
  by_short h = rw (lt-ltb size 256 h) refl

  -- for a longer one the drawing's comes after them
  by_long : 256 ≤ size → first_refusal (rows_refused top bottom 256) (drawing_number top bottom drawing D) ≡ refused top bottom drawing D size
  unfolding refused
  by_long h = rw (le-ltb size 256 h) refl

  -- the number alone is told of the first
  short_number : first_refusal (rows_refused top bottom 256) 9 < 13
  short_number = go (rows_refused top bottom 256) (rows_low top bottom 256)
    where
      go : (k : ℕ) → k ≤ 7 → first_refusal k 9 < 13
      go zero l = omega arith
      go (suc k) l = omega arith

  pub short_fault : size < 256 → fault_of (reported top bottom drawing D size) ≡ number_only (first_refusal (rows_refused top bottom 256) 9)
  short_fault h =
      fault_of-reported top bottom drawing D size ∙ ap (fault_with top bottom drawing D) (sym (by_short h))
      ∙ sym (fault_low top bottom drawing D (first_refusal (rows_refused top bottom 256) 9) short_number)

  -- with accepted rows
  by_table : rows_refused top bottom 256 ≡ 0 → size < 256 → 9 ≡ refused top bottom drawing D size
  by_table e h = ap (λ (k : ℕ). first_refusal k 9) (sym e) ∙ by_short h

  by_drawing : rows_refused top bottom 256 ≡ 0 → 256 ≤ size → drawing_number top bottom drawing D ≡ refused top bottom drawing D size
  by_drawing e h = ap (λ (k : ℕ). first_refusal k (drawing_number top bottom drawing D)) (sym e) ∙ by_long h

  -- an accepted call: rows, a table of 256 records and a drawing that are not refused
  pub accepted_report : refused top bottom drawing D size ≡ 0 → (rows_refused top bottom 256 ≡ 0) × (256 ≤ size) × (drawing_number top bottom drawing D ≡ 0)
  unfolding refused
  accepted_report e =
      let (a, b) = first_past (rows_refused top bottom 256) (first_refusal (pick (ltb size 256) 9 0) (drawing_number top bottom drawing D)) e in
      let (c, d) = first_past (pick (ltb size 256) 9 0) (drawing_number top bottom drawing D) b in
      (a, go (ltb size 256) (below_by size 256) c, d)
    where
      go : (q : Bool) → Below size 256 q → pick {A = ℕ} q 9 0 ≡ 0 → 256 ≤ size
      go true b z = absurd (omega arith)
      go false (above h) z = h

-- the report on a drawing, into a table that is long enough, tells what the checker tells
pub own_fault : (top bottom : List ℕ) (w t : ℕ) (D : List ℕ) (size : ℕ) → 256 ≤ size
    → fault_of (reported top bottom (Given w t) D size) ≡ fault_with top bottom (Given w t) D (checking.refused top bottom w t D)
unfolding checking.refused
own_fault top bottom w t D size h =
    fault_of-reported top bottom (Given w t) D size ∙ ap (fault_with top bottom (Given w t) D) (sym (by_long top bottom (Given w t) D size h))

-- THE TABLE

module _ (top bottom : List ℕ) (drawing : Drawing) (D : List ℕ) (table : List NetRecord) where
  -- after a refused call
  pub table_of_refusal : refused top bottom drawing D (length table) ≢ 0 → table_after top bottom drawing D table ≡ table
  unfolding table_after
  table_of_refusal n = accepted_old (refused top bottom drawing D (length table)) (records top bottom drawing D ++ drop 256 table) table n

  -- and after an accepted one
  pub table_filled : refused top bottom drawing D (length table) ≡ 0 → table_after top bottom drawing D table ≡ records top bottom drawing D ++ drop 256 table
  unfolding table_after
  table_filled z = ap (λ (j : ℕ). if_accepted j (records top bottom drawing D ++ drop 256 table) table) z

-- ANSWERS WITH A NUMBER

-- a fault, and what is told of it
fault_by : (k : ℕ) (t : Told) (f : Fault) → k ≤ 24 → t.number ≡ k → Err f ≡ answer_with k t → (number_by f.refusal ≡ k) × (told f ≡ t)
fault_by zero t f l n e = absurd (cc)
fault_by (suc k) t f l n e =
    let g : f ≡ record { refusal = refusal (suc k); place = t.place; column = t.column; row = t.row } = cc in
    let m = ap (λ (f : Fault). number_by f.refusal) g ∙ number_refusal (suc k) (omega arith) l in
    (m, ap told g ∙ ap (λ (n : ℕ). record { number = n; place = t.place; column = t.column; row = t.row }) (number_refusal (suc k) (omega arith) l ∙ sym n))

-- a fault is the answer with its number
is_fault : (k : ℕ) (t : Told) (f : Fault) → number_by f.refusal ≡ k → told f ≡ t → Err f ≡ answer_with k t
is_fault zero t f n e = absurd (number_nonzero f.refusal n)
is_fault (suc k) t f n e =
    ap (λ (r : Refusal). Err (record { refusal = r; place = f.place; column = f.column; row = f.row })) (sym (refusal_number f.refusal) ∙ ap refusal n)
    ∙ ap (λ (t : Told). Err (record { refusal = refusal (suc k); place = t.place; column = t.column; row = t.row })) e

-- no fault is that with 0
no_fault : (k : ℕ) (t : Told) → Ok tt ≡ answer_with k t → k ≡ 0
no_fault zero t e = refl
no_fault (suc k) t e = absurd (cc)

is_fine : (k : ℕ) (t : Told) → k ≡ 0 → Ok tt ≡ answer_with k t
is_fine zero t z = refl
is_fine (suc k) t z = absurd (omega arith)

-- an answer without a fault is that of a call that is not refused
pub passed : (top bottom : List ℕ) (drawing : Drawing) (D : List ℕ) (size : ℕ) → Ok tt ≡ reported top bottom drawing D size → refused top bottom drawing D size ≡ 0
unfolding reported
passed top bottom drawing D size e = no_fault (refused top bottom drawing D size) _ e

-- one with a fault that of a refused one
pub faulty : (top bottom : List ℕ) (drawing : Drawing) (D : List ℕ) (size : ℕ) (f : Fault) → Err f ≡ reported top bottom drawing D size → refused top bottom drawing D size ≢ 0
unfolding reported
faulty top bottom drawing D size f e z =
    number_nonzero f.refusal ((fault_by (refused top bottom drawing D size) _ f (refused_within top bottom drawing D size) (fault_number top bottom drawing D (refused top bottom drawing D size)) e).0 ∙ z)

-- THE WAYS OUT

module _ (top bottom : List ℕ) (drawing : Drawing) (D : List ℕ) (table : List NetRecord) where
  -- a fault with the call's number: the table stays
  abbrev Refuses : Fault → Type 0
  Refuses f = (Err f ≡ reported top bottom drawing D (length table)) × (table ≡ table_after top bottom drawing D table)

  refuses : (f : Fault) → number_by f.refusal ≡ refused top bottom drawing D (length table) → told f ≡ fault_with top bottom drawing D (number_by f.refusal) → Refuses f
  unfolding reported
  refuses f n e = (
    is_fault (refused top bottom drawing D (length table)) _ f n (e ∙ ap (fault_with top bottom drawing D) n),
    sym (table_of_refusal top bottom drawing D table (λ z. number_nonzero f.refusal (n ∙ z))),
  )

  -- of the rows
  pub refuses_rows : (r : Refusal) → number_by r ≡ rows_refused top bottom 256 → Refuses (fault_at r 0)
  refuses_rows r e =
      refuses (fault_at r 0) (e ∙ by_rows top bottom drawing D (length table) (λ z. number_nonzero r (e ∙ z)))
      (fault_low top bottom drawing D (number_by r) (omega (arith, e, rows_low top bottom 256)))

  module _ (e : rows_refused top bottom 256 ≡ 0) where
    -- of the table
    pub refuses_table : length table < 256 → Refuses (fault_at TableTooShort 0)
    refuses_table l = refuses (fault_at TableTooShort 0) (by_table top bottom drawing D (length table) e l) (fault_low top bottom drawing D 9 (omega arith))

    module _ (l : 256 ≤ length table) where
      -- of the drawing
      pub refuses_drawing : (f : Fault) → Err f ≡ drawing_reported top bottom drawing D → Refuses f
      refuses_drawing f is =
          let k = drawing_number top bottom drawing D in
          let (n, t) = fault_by k (fault_with top bottom drawing D k) f (drawing_number_within top bottom drawing D) (fault_number top bottom drawing D k) is in
          refuses f (n ∙ by_drawing top bottom drawing D (length table) e l) (t ∙ ap (fault_with top bottom drawing D) (sym n))

      -- no refusal
      pub drawing_passed : Ok tt ≡ drawing_reported top bottom drawing D → drawing_number top bottom drawing D ≡ 0
      drawing_passed is = no_fault (drawing_number top bottom drawing D) _ is

      pub fills : drawing_number top bottom drawing D ≡ 0 → (nets : List NetRecord) → nets ≡ records top bottom drawing D
          → (Ok tt ≡ reported top bottom drawing D (length table)) × (nets ++ drop 256 table ≡ table_after top bottom drawing D table)
      unfolding reported
      fills z nets h =
          let n : refused top bottom drawing D (length table) ≡ 0 = sym (by_drawing top bottom drawing D (length table) e l) ∙ z in
          (is_fine (refused top bottom drawing D (length table)) _ n, ap (λ (xs : List NetRecord). xs ++ drop 256 table) h ∙ sym (table_filled top bottom drawing D table n))
