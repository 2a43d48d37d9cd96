-- What the table holds after the call, record by record, and its lengths added up. Assumes nothing.
use Prim.Native.Nat.{ℕ, zero, suc, ◌+◌, ◌-◌, ◌≤◌, ◌<◌}
use mathlib.Core.Path.{◌≡◌, refl, sym, ap, ◌∙◌}
use mathlib.Core.Bool.{Bool, true, false}
use mathlib.Core.Logic.{◌≢◌}
use mathlib.Core.List.{List, [], ◌∷◌, ◌++◌}
use native.Mathlib.Omega.{arith}
use native.Mathlib.Numerals.{add-one}
use lib.Dec.{eqb}
use lib.ListN.{length, drop, get_or, get_or-append}
use lib.Seq.{get_or_at, get_or-append-add, get_or-drop}
use Rattle.grid.specs.Channel.{sum, left, pins, rows_refused}
use Rattle.grid.specs.Nets.{first_to, first_column, last_column}
use Rattle.grid.proofs.Tests.{Same, same, diff, same_by}
use Rattle.grid.proofs.Sums.{sum_same}
use Rattle.grid.proofs.Rows.{left-right}
use Rattle.grid.proofs.Nets.{FirstSide, seen, none, ahead, first_le, first_by, no_last}
use Rattle.report.specs.declared.NetRecord.{NetRecord}
use Rattle.report.specs.declared.Drawing.{Drawing}
use Rattle.report.specs.declared.Drawing.TheVariants.{Absent, Given}
use Rattle.report.specs.Length.{edges_drawn}
use Rattle.report.specs.Report.{up_to, length_in, drawing_number, record_of, records, refused, table_after}
use Rattle.report.proofs.Records.{zero_record, length-up_to, records_long}
use Rattle.report.proofs.WireLengths.{lengths_add_up, passed_countable, no_net_no_length}
use Rattle.report.proofs.Answers.{accepted_report, table_filled, table_of_refusal}

-- the record of net k + 1 among those of the nets 1 to m
up_to_at : (f : ℕ → NetRecord) (m k : ℕ) (d : NetRecord) → k < m → get_or (up_to f m) k d ≡ f (suc k)
unfolding up_to
up_to_at f zero k d h = absurd (omega arith)
up_to_at f (suc m) k d h = go (eqb k m) (same_by k m) (λ b. up_to_at f m k d b)
  where
    go : (q : Bool) → Same k m q → (k < m → get_or (up_to f m) k d ≡ f (suc k)) → get_or (up_to f m ++ (f (suc m) ∷ [])) k d ≡ f (suc k)
    go true (same e) before = get_or_at (up_to f m) (f (suc m)) [] d k (length-up_to f m ∙ sym e) ∙ ap (λ (j : ℕ). f (suc j)) (sym e)
    go false (diff n) before = get_or-append (up_to f m) (f (suc m) ∷ []) d k (omega (arith, length-up_to f m)) ∙ before (omega arith)

module _ (top bottom : List ℕ) (drawing : Drawing) (D : List ℕ) (table : List NetRecord) (d : NetRecord) where
  -- in a table that is filled, record k counted from 0 is that of net k + 1
  pub record_at : refused top bottom drawing D (length table) ≡ 0 → (k : ℕ) → k < 256 → get_or (table_after top bottom drawing D table) k d ≡ record_of top bottom drawing D (k + 1)
  unfolding records
  record_at z k h =
      ap (λ (l : List NetRecord). get_or l k d) (table_filled top bottom drawing D table z)
      ∙ get_or-append (records top bottom drawing D) (drop 256 table) d k (omega (arith, records_long top bottom drawing D))
      ∙ up_to_at (record_of top bottom drawing D) 256 k d h ∙ ap (record_of top bottom drawing D) (sym (add-one k))

  -- "Records after the 256th keep their contents"
  pub record_kept : (k : ℕ) → 256 ≤ k → get_or (table_after top bottom drawing D table) k d ≡ get_or table k d
  record_kept k h = go (eqb (refused top bottom drawing D (length table)) 0) (same_by (refused top bottom drawing D (length table)) 0)
    where
      long : length (records top bottom drawing D) + (k - 256) ≡ k
      long = omega (arith, records_long top bottom drawing D)

      past : get_or (records top bottom drawing D ++ drop 256 table) k d ≡ get_or table k d
      past =
          ap (λ (j : ℕ). get_or (records top bottom drawing D ++ drop 256 table) j d) (sym long)
          ∙ get_or-append-add (records top bottom drawing D) (drop 256 table) (k - 256) d ∙ get_or-drop 256 table (k - 256) d ∙ ap (λ (j : ℕ). get_or table j d) (omega arith)

      go : (q : Bool) → Same (refused top bottom drawing D (length table)) 0 q → get_or (table_after top bottom drawing D table) k d ≡ get_or table k d
      go true (same z) = ap (λ (l : List NetRecord). get_or l k d) (table_filled top bottom drawing D table z) ∙ past
      go false (diff n) = ap (λ (l : List NetRecord). get_or l k d) (table_of_refusal top bottom drawing D table n)

-- a figure of the first 256 records, added up, is that of the nets 1 to 256
records-sum : (top bottom : List ℕ) (drawing : Drawing) (D : List ℕ) (table : List NetRecord) (d : NetRecord) (f : NetRecord → ℕ)
    → refused top bottom drawing D (length table) ≡ 0
    → sum (λ v. f (get_or (table_after top bottom drawing D table) (v - 1) d)) 256 ≡ sum (λ v. f (record_of top bottom drawing D v)) 256
records-sum top bottom drawing D table d f z =
    sum_same (λ v. f (get_or (table_after top bottom drawing D table) (v - 1) d)) (λ v. f (record_of top bottom drawing D v)) 256
    (λ v a b. ap f (record_at top bottom drawing D table d z (v - 1) (omega arith) ∙ ap (record_of top bottom drawing D) (omega arith)))

-- document 02, Job 2: "The lengths of the first 256 records add up to the number of entries that are not 0"
pub table_lengths : (top bottom : List ℕ) (w t : ℕ) (D : List ℕ) (table : List NetRecord) (d : NetRecord) → refused top bottom (Given w t) D (length table) ≡ 0
    → sum (λ v. (get_or (table_after top bottom (Given w t) D table) (v - 1) d).length) 256 ≡ edges_drawn D
table_lengths top bottom w t D table d z =
    let (r, l, p) = accepted_report top bottom (Given w t) D (length table) z in
    let (s, few, o) = passed_countable top bottom w t D r p in
    records-sum top bottom (Given w t) D table d (λ r. r.length) z ∙ lengths_add_up w t D s o

-- "zeros for an unused number", in what an accepted call writes
pub unused : (top bottom : List ℕ) (drawing : Drawing) (D : List ℕ) → rows_refused top bottom 256 ≡ 0 → drawing_number top bottom drawing D ≡ 0
    → (v : ℕ) → v ≢ 0 → pins top bottom v ≡ 0 → record_of top bottom drawing D v ≡ zero_record
unfolding first_column last_column
unused top bottom drawing D r z v n e = cc (never, no_last top bottom v n (length top) never, no_length drawing z)
  where
    never : first_to top bottom v (length top) ≡ 0
    never = go (first_by top bottom v n (length top) (length top) (omega arith))
      where
        go : FirstSide (left top bottom (length top) v) (first_to top bottom v (length top)) (length top) → first_to top bottom v (length top) ≡ 0
        go (seen a b c) = absurd (omega (arith, left-right top bottom v (length top)))
        go (none a b) = b
        go (ahead a b) = absurd (omega (arith, first_le top bottom v (length top)))

    no_length : (g : Drawing) → drawing_number top bottom g D ≡ 0 → length_in g D v ≡ 0
    no_length Absent p = refl
    no_length (Given w t) p = no_net_no_length top bottom w t D r p v n e
