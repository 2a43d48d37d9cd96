-- The loop over a row, and the rows of each answer. Assumes nothing.
use Prim.Native.Nat.{ℕ, zero, suc, ◌+◌, ◌*◌, ◌≤◌, ◌<◌}
use native.Mathlib.Omega.{arith}
use native.Mathlib.Numerals.{add-one}
use mathlib.Core.Path.{◌≡◌, refl, ap, sym, ◌∙◌}
use mathlib.Core.List.{List, [], ◌∷◌, ◌++◌, append_assoc}
use lib.ListN.{length, get_or, take, drop, set, length-append}
use Rattle.std.proofs.lemmas.List.{drop_all, append-nil}
use lib.Seq.{drop-cons, set_at, take_at, length-take-le}
use Rattle.std.specs.Prelude.{Result, Ok, Err}
use Rattle.grid.specs.declared.refusals.Refusal.{Refusal}
use Rattle.grid.specs.Refusals.{if_accepted, number, number_of}
use Rattle.grid.proofs.Numbers.{number_nonzero}
use Rattle.grid.proofs.Answers.{accepted_old}
use Rattle.record.specs.Record.{word, record_refused, columns as columns_of, record_read, row, top_row, bottom_row, laid}
use Rattle.record.specs.Counts.{Counts}
use Rattle.record.proofs.Refusals.{whole_record, numbered, columns_by, refused_is, channel_is}

-- a row has as many numbers as it is asked for
row-length : (s : List ℕ) (at k : ℕ) → length (row s at k) ≡ k
unfolding row
row-length s at zero = refl
row-length s at (suc k) = length-append (row s at k) (word s (at + 2 * k) ∷ []) ∙ omega (arith, row-length s at k)

-- nothing laid down
pub laid_none : (s : List ℕ) (at : ℕ) (old : List ℕ) → old ≡ laid (row s at 0) old
unfolding row
laid_none s at old = refl

-- one number more
pub laid_more : (s : List ℕ) (at k : ℕ) (old now : List ℕ) (v : ℕ) → now ≡ laid (row s at k) old → v ≡ word s (at + 2 * k) → k < length old
    → set now k v ≡ laid (row s at (k + 1)) old
unfolding row
laid_more s at k old now v e f h =
    ap (λ z. set z k v) (e ∙ ap (λ z. row s at k ++ drop z old) (row-length s at k) ∙ ap (λ z. row s at k ++ z) (drop-cons old k 0 h))
    ∙ set_at (row s at k) (get_or old k 0) (drop (suc k) old) v k (row-length s at k)
    ∙ ap (λ z. row s at k ++ (z ∷ drop (suc k) old)) f
    ∙ sym (append_assoc (row s at k) (word s (at + 2 * k) ∷ []) (drop (suc k) old))
    ∙ ap (λ z. row s at (suc k) ++ drop z old) (sym (row-length s at (suc k)))
    ∙ sym (ap (λ z. laid (row s at z) old) (add-one k))

-- all of them
pub laid_all : (s : List ℕ) (at k n : ℕ) (old now : List ℕ) → now ≡ laid (row s at k) old → (k ≡ n) × (n ≡ length old) → now ≡ row s at n
laid_all s at k n old now e h =
    e ∙ ap (λ z. laid (row s at z) old) h.0
    ∙ ap (λ z. row s at n ++ z) (drop_all (length (row s at n)) old (omega (arith, row-length s at n)))
    ∙ append-nil (row s at n)

-- a row read into a part of an array
pub row_laid : (s : List ℕ) (at n : ℕ) (old out : List ℕ) → out ≡ row s at (length (take n old)) → n ≤ length old → out ++ drop n old ≡ laid (row s at n) old
row_laid s at n old out e h =
    ap (λ z. z ++ drop n old) (e ∙ ap (row s at) (length-take-le n old h)) ∙ ap (λ z. row s at n ++ drop z old) (sym (row-length s at n))

-- both rows have as many numbers as the channel has columns
rows_length : (s : List ℕ) → (length (top_row s) ≡ columns_of (record_read s)) × (length (bottom_row s) ≡ columns_of (record_read s))
unfolding top_row bottom_row
rows_length s = (row-length s 6 (columns_of (record_read s)), row-length s (6 + 2 * columns_of (record_read s)) (columns_of (record_read s)))

-- the parts that a caller takes of the arrays are the rows
pub rows_taken : (s : List ℕ) (n : ℕ) (top bottom : List ℕ) → Ok n ≡ record_read s
    → (take n (laid (top_row s) top) ≡ top_row s) × (take n (laid (bottom_row s) bottom) ≡ bottom_row s)
rows_taken s n top bottom e =
    let r = rows_length s in (
      take_at (top_row s) (drop (length (top_row s)) top) n (r.0 ∙ sym (ap columns_of e)),
      take_at (bottom_row s) (drop (length (bottom_row s)) bottom) n (r.1 ∙ sym (ap columns_of e)),
    )

-- what reading ensures: the answer, its number, what the arrays hold after it, and its columns, which fit in them
abbrev pub Ensured : List ℕ → Result ℕ Refusal → List ℕ → List ℕ → List ℕ → List ℕ → Type 0
Ensured s r above above' below below' =
    record {
      answer : r ≡ record_read s;
      number : number_of r ≡ record_refused s;
      top : above' ≡ if_accepted (number_of r) (laid (top_row s) above) above;
      bottom : below' ≡ if_accepted (number_of r) (laid (bottom_row s) below) below;
      columns : columns_of r ≡ if_accepted (number_of r) (word s 4) 0;
      counts : Counts (columns_of r) above' × Counts (columns_of r) below';
    }

-- a part that fits
counts : (n : ℕ) (xs : List ℕ) → n ≤ length xs → Counts n xs
counts n xs h = (h, sym (length-take-le n xs h))

-- all that is ensured, from the answer and what the arrays hold
answered : (s : List ℕ) (r : Result ℕ Refusal) (top top' bottom bottom' : List ℕ) → r ≡ record_read s → top' ≡ if_accepted (number_of r) (laid (top_row s) top) top
    → bottom' ≡ if_accepted (number_of r) (laid (bottom_row s) bottom) bottom → columns_of r ≤ length top' → columns_of r ≤ length bottom'
    → Ensured s r top top' bottom bottom'
answered s r top top' bottom bottom' e f g k l =
    record {
      answer = e;
      number = ap number_of e ∙ numbered s;
      top = f;
      bottom = g;
      columns = columns_by s r e;
      counts = (counts (columns_of r) top' k, counts (columns_of r) bottom' l);
    }

-- a refusal: the arrays are as they were
pub read_refused : (s : List ℕ) (r : Refusal) (top bottom : List ℕ) → number r ≡ record_refused s → Ensured s (Err r) top top bottom bottom
read_refused s r top bottom e =
    answered s (Err r) top top bottom bottom (refused_is s r e) (sym (accepted_old (number r) (laid (top_row s) top) top (number_nonzero r)))
    (sym (accepted_old (number r) (laid (bottom_row s) bottom) bottom (number_nonzero r))) (omega arith) (omega arith)

-- a channel: the arrays hold its rows
pub read_channel : (s : List ℕ) (n : ℕ) (top top' bottom bottom' : List ℕ) → 0 ≡ record_refused s → n ≡ word s 4
    → top' ≡ laid (row s 6 n) top → bottom' ≡ laid (row s (6 + 2 * n) n) bottom → 256 ≤ length top' → 256 ≤ length bottom'
    → Ensured s (Ok n) top top' bottom bottom'
unfolding top_row bottom_row
read_channel s n top top' bottom bottom' e f g l a b =
    let w = whole_record s e in
    let c = channel_is s n e f in
    answered s (Ok n) top top' bottom bottom' c (g ∙ ap (λ (z : Result ℕ Refusal). laid (row s 6 (columns_of z)) top) c)
    (l ∙ ap (λ (z : Result ℕ Refusal). laid (row s (6 + 2 * columns_of z) (columns_of z)) bottom) c) (omega (arith, w.short, w.exact)) (omega (arith, w.short, w.exact))
