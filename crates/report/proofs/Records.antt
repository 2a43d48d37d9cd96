-- Lists of records that a loop writes from the front, and the records of a channel's nets. Assumes nothing.
use Prim.Native.Nat.{ℕ, zero, suc, ◌+◌, ◌≤◌, ◌<◌}
use mathlib.Core.Path.{◌≡◌, refl, sym, ap, ◌∙◌}
use mathlib.Core.List.{List, [], ◌∷◌, ◌++◌, append-nil}
use native.Mathlib.Omega.{arith}
use native.Mathlib.Numerals.{add-one}
use lib.ListN.{length, drop, get_or, set, length-append}
use lib.Seq.{drop-cons, append_snoc, set_at}
use Rattle.std.proofs.lemmas.List.{drop_all}
use Rattle.grid.specs.Channel.{pins}
use Rattle.grid.specs.Nets.{first_column, last_column, table}
use Rattle.grid.specs.declared.NetFacts.{NetFacts}
use Rattle.grid.specs.Answers.{accepted_facts}
use Rattle.grid.specs.Working.{ByNet}
use Rattle.grid.proofs.Tables.{table_at}
use Rattle.report.specs.declared.NetRecord.{NetRecord}
use Rattle.report.specs.declared.Drawing.{Drawing}
use Rattle.report.specs.Report.{up_to, length_in, records, record_of, blank_table}
use Rattle.report.specs.Working.{in_tables}

abbrev pub zero_record : NetRecord
zero_record = record { first = 0; last = 0; pins = 0; length = 0 }

-- WRITTEN FROM THE FRONT

-- xs in place of the first j of ys, and one more; d serves for what lies past the end
pub one_more : {A : Type 0} (d : A) (xs ys : List A) (j : ℕ) → length xs ≡ j → (r : A) → j < length ys → set (xs ++ drop j ys) j r ≡ (xs ++ (r ∷ [])) ++ drop (j + 1) ys
one_more {A} d xs ys j e r h =
    ap (λ (l : List A). set (xs ++ l) j r) (drop-cons ys j d h) ∙ set_at xs (get_or ys j d) (drop (suc j) ys) r j e
    ∙ sym (append_snoc xs r (drop (suc j) ys)) ∙ ap (λ (k : ℕ). (xs ++ (r ∷ [])) ++ drop k ys) (sym (add-one j))

-- RECORDS BY NET

-- as many as asked for
pub length-up_to : (f : ℕ → NetRecord) (k : ℕ) → length (up_to f k) ≡ k
unfolding up_to
length-up_to f zero = refl
length-up_to f (suc k) = simp length-append (omega (arith, length-up_to f k))

-- one more
up_to_suc : (f : ℕ → NetRecord) (k : ℕ) → up_to f k ++ (f (k + 1) ∷ []) ≡ up_to f (k + 1)
unfolding up_to
up_to_suc f k = ap (λ (m : ℕ). up_to f k ++ (f m ∷ [])) (add-one k) ∙ ap (up_to f) (sym (add-one k))

-- a table of zeros has 256 records
pub blank_long : length blank_table ≡ 256
unfolding blank_table
blank_long = refl

-- the records of the nets 1 to k in front of others, and one more
pub stored : (f : ℕ → NetRecord) (old out : List NetRecord) (k : ℕ) (r : NetRecord) → k < length old → out ≡ up_to f k ++ drop k old → r ≡ f (k + 1)
    → set out k r ≡ up_to f (k + 1) ++ drop (k + 1) old
stored f old out k r h e i =
    ap (λ (l : List NetRecord). set l k r) e ∙ one_more zero_record (up_to f k) old k (length-up_to f k) r h
    ∙ ap (λ (x : NetRecord). (up_to f k ++ (x ∷ [])) ++ drop (k + 1) old) i ∙ ap (λ (l : List NetRecord). l ++ drop (k + 1) old) (up_to_suc f k)

-- all
pub stored_all : (f : ℕ → NetRecord) (old out : List NetRecord) (k : ℕ) → length old ≡ 256 → k ≡ 256 → out ≡ up_to f k ++ drop k old → out ≡ up_to f 256
stored_all f old out k l z e =
    e ∙ ap (λ (j : ℕ). up_to f j ++ drop j old) z ∙ ap (λ (xs : List NetRecord). up_to f 256 ++ xs) (drop_all 256 old (omega arith)) ∙ append-nil (up_to f 256)

-- the same records of the nets 1 to k
up_to_same : (f g : ℕ → NetRecord) (k : ℕ) → ((v : ℕ) → 1 ≤ v → v ≤ k → f v ≡ g v) → up_to f k ≡ up_to g k
unfolding up_to
up_to_same f g zero h = refl
up_to_same f g (suc k) h = cc (up_to_same f g k (λ v a b. h v a (omega arith)), h (suc k) (omega arith) (omega arith))

-- the records of a channel are 256
pub records_long : (top bottom : List ℕ) (drawing : Drawing) (D : List ℕ) → length (records top bottom drawing D) ≡ 256
unfolding records
records_long top bottom drawing D = length-up_to (record_of top bottom drawing D) 256

-- the records from the facts of accepted rows and from the lengths are the channel's
pub gathered : (top bottom : List ℕ) (drawing : Drawing) (D : List ℕ) (f : NetFacts) → f ≡ accepted_facts top bottom → (lengths : List ℕ) → ByNet (length_in drawing D) lengths
    → up_to (in_tables f.first f.last f.pins lengths) 256 ≡ records top bottom drawing D
unfolding records
gathered top bottom drawing D f e lengths m = up_to_same (in_tables f.first f.last f.pins lengths) (record_of top bottom drawing D) 256 at
  where
    figure : (g : ℕ → ℕ) (x : List ℕ) (v : ℕ) → 1 ≤ v → v ≤ 256 → x ≡ table g → get_or x v 0 ≡ g v
    figure g x v h k z = ap (λ (y : List ℕ). get_or y v 0) z ∙ table_at g v h k

    at : (v : ℕ) → 1 ≤ v → v ≤ 256 → in_tables f.first f.last f.pins lengths v ≡ record_of top bottom drawing D v
    at v h k =
        cc (figure (first_column top bottom) f.first v h k (ap (λ (f : NetFacts). f.first) e), figure (last_column top bottom) f.last v h k (ap (λ (f : NetFacts). f.last) e), figure (pins top bottom) f.pins v h k (ap (λ (f : NetFacts). f.pins) e), m.at v h k)
