-- The numbers of the net report, written from the front. Assumes nothing.
use Prim.Native.Nat.{min, ℕ, ◌+◌, ◌*◌, ◌/◌, ◌≤◌, ◌<◌}
use mathlib.Core.Path.{◌≡◌, refl, sym, ap, ◌∙◌}
use mathlib.Core.Bool.{Bool}
use mathlib.Core.Logic.{by_cases}
use mathlib.Core.List.{List, [], ◌∷◌, ◌++◌, append_assoc, append-nil}
use native.Mathlib.Decide.{dec_lt}
use lib.Dec.{ltb}
use native.Mathlib.Omega.{arith}
use native.Mathlib.Numerals.{add-one}
use lib.ListN.{length, take, drop, get_or}
use lib.Seq.{take-suc, take_all, take_at, drop_at, drop-drop, length-take-le}
use Rattle.std.specs.Prelude.{Ok, Err}
use Rattle.std.proofs.lemmas.List.{drop_all}
use Rattle.grid.specs.Refusals.{first_refusal, if_accepted}
use Rattle.grid.specs.Channel.{pick, rows_refused}
use Rattle.grid.proofs.Tests.{lt-ltb, le-ltb}
use Rattle.checker.specs.declared.Fault.{Fault}
use Rattle.grid.proofs.Answers.{accepted_old}
use Rattle.report.specs.declared.NetRecord.{NetRecord}
use Rattle.report.specs.declared.Drawing.{Drawing}
use Rattle.report.specs.Report.{answer_with, drawing_number, fault_with, records, refused, reported, table_after}
use Rattle.report.proofs.Records.{zero_record, records_long}
use Rattle.report.proofs.Answers.{passed, faulty, accepted_report, table_filled}
use Rattle.export.specs.Export.{flat, figures_after}

-- the numbers of two tables, one after the other
flat_append : (xs ys : List NetRecord) → flat (xs ++ ys) ≡ flat xs ++ flat ys
unfolding flat
flat_append [] ys = refl
flat_append (x ∷ xs) ys = ap (λ (l : List ℕ). x.first ∷ x.last ∷ x.pins ∷ x.length ∷ l) (flat_append xs ys)

-- four for each record
length-flat : (xs : List NetRecord) → length (flat xs) ≡ 4 * length xs
unfolding flat
length-flat [] = refl
length-flat (x ∷ xs) = let e = length-flat xs in omega arith

-- those of the first k records
flat_long : (xs : List NetRecord) (k : ℕ) → k ≤ length xs → length (flat (take k xs)) ≡ 4 * k
flat_long xs k h = length-flat (take k xs) ∙ ap (λ (m : ℕ). 4 * m) (length-take-le k xs h)

-- and of one record more
flat_suc : (xs : List NetRecord) (k : ℕ) (r : NetRecord) → k < length xs → r ≡ get_or xs k zero_record → flat (take k xs) ++ flat (r ∷ []) ≡ flat (take (k + 1) xs)
unfolding flat
flat_suc xs k r h e =
    sym (flat_append (take k xs) (r ∷ []))
    ∙ ap (λ (x : NetRecord). flat (take k xs ++ (x ∷ []))) e
    ∙ ap flat (sym (take-suc xs k zero_record h) ∙ ap (λ (m : ℕ). take m xs) (sym (add-one k)))

module _ (xs : List NetRecord) (old : List ℕ) where
  -- the numbers of no record stand in front of the old ones
  pub none_put : old ≡ flat (take 0 xs) ++ drop (4 * 0) old
  unfolding flat
  none_put = refl

  module _ (now : List ℕ) (k : ℕ) (e : now ≡ flat (take k xs) ++ drop (4 * k) old) where
    -- the numbers of one record more
    pub one_put : (m : ℕ) (ys : List ℕ) (r : NetRecord) → m ≡ 4 → k < length xs → ys ≡ r.first ∷ r.last ∷ r.pins ∷ r.length ∷ [] → r ≡ get_or xs k zero_record
        → take (4 * k) now ++ (ys ++ drop m (drop (4 * k) now)) ≡ flat (take (k + 1) xs) ++ drop (4 * (k + 1)) old
    unfolding flat
    one_put m ys r f g p q =
        let n : 4 * k + m ≡ 4 * (k + 1) = omega arith in
        let l = flat_long xs k (omega arith) in
        ap (λ (z : List ℕ). take (4 * k) z ++ (ys ++ drop m (drop (4 * k) z))) e
        ∙ ap (λ (z : List ℕ). z ++ (ys ++ drop m (drop (4 * k) (flat (take k xs) ++ drop (4 * k) old)))) (take_at (flat (take k xs)) (drop (4 * k) old) (4 * k) l)
        ∙ ap (λ (z : List ℕ). flat (take k xs) ++ (ys ++ drop m z)) (drop_at (flat (take k xs)) (drop (4 * k) old) (4 * k) l)
        ∙ ap (λ (z : List ℕ). flat (take k xs) ++ (ys ++ z)) (drop-drop m (4 * k) old ∙ ap (λ (i : ℕ). drop i old) n)
        ∙ ap (λ (z : List ℕ). flat (take k xs) ++ (z ++ drop (4 * (k + 1)) old)) p
        ∙ sym (append_assoc (flat (take k xs)) (flat (r ∷ [])) (drop (4 * (k + 1)) old))
        ∙ ap (λ (z : List ℕ). z ++ drop (4 * (k + 1)) old) (flat_suc xs k r g q)

  -- all of them
  pub all_put : (now : List ℕ) (k : ℕ) → now ≡ flat (take k xs) ++ drop (4 * k) old → k ≡ length xs → now ≡ flat xs ++ drop (4 * length xs) old
  all_put now k e f =
      e ∙ ap (λ (m : ℕ). flat (take m xs) ++ drop (4 * m) old) f ∙ ap (λ (z : List NetRecord). flat z ++ drop (4 * length xs) old) (take_all (length xs) xs (omega arith))

-- WHAT THE CALL LEAVES

module _ (top bottom : List ℕ) (drawing : Drawing) (D old : List ℕ) where
  -- a table of 256 records or fewer is refused as one of all that fit
  same_size : (m : ℕ) → m ≡ min (length old / 4) 256 → refused top bottom drawing D m ≡ refused top bottom drawing D (length old / 4)
  unfolding refused
  same_size m e = ap (λ (q : Bool). first_refusal (rows_refused top bottom 256) (first_refusal (pick q 9 0) (drawing_number top bottom drawing D))) (same_test m e)
    where
      same_test : (m : ℕ) → m ≡ min (length old / 4) 256 → ltb m 256 ≡ ltb (length old / 4) 256
      same_test m e =
          by_cases (dec_lt (length old / 4) 256) (λ h. lt-ltb m 256 (omega arith) ∙ sym (lt-ltb (length old / 4) 256 h))
          (λ h. le-ltb m 256 (omega arith) ∙ sym (le-ltb (length old / 4) 256 (omega arith)))

  -- and answered so
  pub same_answer : (m : ℕ) → m ≡ min (length old / 4) 256 → reported top bottom drawing D m ≡ reported top bottom drawing D (length old / 4)
  unfolding reported
  same_answer m e = ap (λ (k : ℕ). answer_with k (fault_with top bottom drawing D k)) (same_size m e)

  -- a table that is filled holds the records
  pub filled : (table : List NetRecord) → Ok tt ≡ reported top bottom drawing D (length table) → length table ≡ min (length old / 4) 256
      → (256 ≤ length old / 4) × (table_after top bottom drawing D table ≡ records top bottom drawing D)
  filled table a e =
      let z = passed top bottom drawing D (length table) a in
      let l : 256 ≤ length table = (accepted_report top bottom drawing D (length table) z).1 in (
        omega arith,
        table_filled top bottom drawing D table z
            ∙ ap (λ (xs : List NetRecord). records top bottom drawing D ++ xs) (drop_all 256 table (omega arith)) ∙ append-nil (records top bottom drawing D),
      )

  -- the records as numbers, in front of the old ones
  pub put_collected : (table : List NetRecord) → Ok tt ≡ reported top bottom drawing D (length table) → length table ≡ min (length old / 4) 256
      → (nets : List NetRecord) → nets ≡ records top bottom drawing D → flat nets ++ drop (4 * length nets) old ≡ figures_after top bottom drawing D old
  unfolding figures_after
  put_collected table a e nets h =
      let z : refused top bottom drawing D (length old / 4) ≡ 0 = sym (same_size (length table) e) ∙ passed top bottom drawing D (length table) a in
      let l : length nets ≡ 256 = ap length h ∙ records_long top bottom drawing D in
      ap (λ (k : ℕ). flat nets ++ drop (4 * k) old) l ∙ ap (λ (xs : List NetRecord). flat xs ++ drop 1024 old) h
      ∙ ap (λ (k : ℕ). if_accepted k (flat (records top bottom drawing D) ++ drop 1024 old) old) (sym z)

  -- and none on refusal
  pub put_none : (table : List NetRecord) (f : Fault) → Err f ≡ reported top bottom drawing D (length table) → length table ≡ min (length old / 4) 256
      → (Err f ≡ reported top bottom drawing D (length old / 4)) × (old ≡ figures_after top bottom drawing D old)
  unfolding figures_after
  put_none table f a e = (
    a ∙ same_answer (length table) e,
    sym (accepted_old (refused top bottom drawing D (length old / 4)) (flat (records top bottom drawing D) ++ drop 1024 old) old
        (λ z. faulty top bottom drawing D (length table) f a (same_size (length table) e ∙ z))),
  )
