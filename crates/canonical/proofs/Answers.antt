-- The bytes that the code puts, and the answer of `write` in each of its cases. Assumes nothing.
use Prim.Native.Nat.{ℕ, ◌+◌, ◌*◌, ◌≤◌, ◌<◌}
use mathlib.Core.Path.{◌≡◌, refl, sym, ap, ap₂, ◌∙◌}
use mathlib.Core.Bool.{Bool, false}
use mathlib.Core.List.{List, ◌++◌, map}
use native.Mathlib.Omega.{arith}
use Rattle.std.proofs.Common.{rules}
use lib.Dec.{ltb}
use lib.ListN.{length, get_or, length-map}
use Rattle.grid.specs.Channel.{pick, over, rows_refused}
use Rattle.grid.specs.Nets.{table}
use Rattle.std.specs.Prelude.{Result, Ok, Err}
use Rattle.grid.specs.declared.refusals.Refusal.{Refusal}
use Rattle.grid.specs.declared.refusals.Refusal.TheVariants.{OutputTooShort}
use Rattle.grid.specs.Refusals.{first_refusal, if_accepted, number, number_of, answer_of}
use Rattle.grid.specs.Working.{Rows}
use Rattle.grid.proofs.Tests.{ltb-false, lt-ltb, le-ltb, pick_past}
use Rattle.grid.proofs.Scanning.{none_over}
use Rattle.grid.proofs.Numbers.{pick_within, first_within, number_nonzero, number_answer, figures_answer, refused_is}
use Rattle.grid.proofs.Answers.{first_past, first_here, rows_within, rows_left, after_sizes, accepted_old}
use Rattle.record.specs.Record.{laid, words, record_of}
use Rattle.record.specs.Writing.{Room, Puts}
use Rattle.record.specs.declared.writing.Writer.{Writer}
use Rattle.canonical.specs.Working.{head, by_table}
use Rattle.record.proofs.Words.{words_append, record_length}
use Rattle.record.proofs.Put.{put_laid}
use Rattle.canonical.specs.Renaming.{new_number, new_top, new_bottom}
use Rattle.canonical.specs.Canonical.{length_of, canonical, record_size, refused, answer, bytes_after}
use Rattle.canonical.proofs.Renamed.{map_same}
use Rattle.canonical.proofs.Numbering.{number_at}

-- accepted rows, for the code
pub accepted_rows : (top bottom : List ℕ) → rows_refused top bottom 256 ≡ 0 → Rows top bottom
accepted_rows top bottom e = rows_left top bottom 256 (omega arith) (first_past _ _ (sym (after_sizes top bottom 256) ∙ e)).0

-- THE BYTES

module _ (top bottom numbers : List ℕ) (rows : Rows top bottom) (h : numbers ≡ table (new_number top bottom)) where
  -- a row by the table is the renamed row
  row_by : (l : List ℕ) → over l ≡ false → by_table numbers l ≡ map (new_number top bottom) l
  row_by l o = map_same (λ v. get_or numbers v 0) (new_number top bottom) l (λ i. number_at top bottom numbers h (get_or l i 0) (none_over l i o))

  -- the head and the two rows are the record
  pub channel_bytes : words (head (length top)) ++ (words (by_table numbers top) ++ words (by_table numbers bottom)) ≡ canonical top bottom
  unfolding canonical record_of words
  channel_bytes =
      ap₂ (λ a b. words (head (length top)) ++ (words a ++ words b)) (row_by top rows.above) (row_by bottom rows.below)
      ∙ ap (λ z. words (head (length top)) ++ z) (sym (words_append (new_top top bottom) (new_bottom top bottom)))
      ∙ ap (λ n. words (head n ++ (new_top top bottom ++ new_bottom top bottom))) (sym (length-map top (new_number top bottom)))

  -- room for the record: for its parts
  pub channel_room : {w : Writer} → Room w (canonical top bottom) → Room w (words (head (length top)) ++ (words (by_table numbers top) ++ words (by_table numbers bottom)))
  channel_room {w} r = record { room = omega (arith, r.room, ap length channel_bytes) }

-- as many as are promised
pub canonical-length : (top bottom : List ℕ) → length top ≡ length bottom → length (canonical top bottom) ≡ record_size top bottom
unfolding canonical
canonical-length top bottom e =
    record_length (new_top top bottom) (new_bottom top bottom) (length-map top (new_number top bottom) ∙ e ∙ sym (length-map bottom (new_number top bottom)))
    ∙ ap (λ n. 6 + 4 * n) (length-map top (new_number top bottom))

-- room for them
pub canonical_room : (top bottom : List ℕ) {w : Writer} → Rows top bottom → w.written ≡ 0 → record_size top bottom ≤ length w.bytes.now → Room w (canonical top bottom)
canonical_room top bottom {w} rows z h = record { room = omega (arith, z, canonical-length top bottom rows.same) }

-- THE ANSWER

module _ (top bottom : List ℕ) (lent : ℕ) where
  -- its number, which is one of the table, and its length
  number_within : refused top bottom lent ≤ 24
  unfolding refused
  number_within = let r = rows_within top bottom 256 in search (rules, first_within, pick_within) depth 12

  pub answer-number : number_of (answer top bottom lent) ≡ refused top bottom lent
  unfolding answer
  answer-number = number_answer _ _ number_within

  pub answer-length : length_of (answer top bottom lent) ≡ if_accepted (refused top bottom lent) (record_size top bottom) 0
  unfolding answer
  answer-length = figures_answer 0 (refused top bottom lent) (record_size top bottom)

  -- where nothing is refused, the rows are accepted and the slice is long enough
  pub none_refused : refused top bottom lent ≡ 0 → (rows_refused top bottom 256 ≡ 0) × (record_size top bottom ≤ lent)
  unfolding refused
  none_refused e =
      let (r, s) = first_past (rows_refused top bottom 256) _ e in
      (r, ltb-false lent (record_size top bottom) (pick_past (ltb lent (record_size top bottom)) 18 0 0 (omega arith) s).0)

module _ (top bottom old : List ℕ) where
  -- what `write` ensures
  abbrev pub Ensured : Result ℕ Refusal → List ℕ → Type 0
  Ensured r now =
      record {
        answer : r ≡ answer top bottom (length old);
        number : number_of r ≡ refused top bottom (length old);
        length : length_of r ≡ if_accepted (number_of r) (record_size top bottom) 0;
        bytes : now ≡ bytes_after top bottom old;
      }

  ensured_by : (k : ℕ) (r : Result ℕ Refusal) (now : List ℕ) → refused top bottom (length old) ≡ k → r ≡ answer_of k (record_size top bottom)
      → now ≡ if_accepted k (laid (canonical top bottom) old) old → Ensured r now
  unfolding answer bytes_after
  ensured_by k r now e f g =
      let a : r ≡ answer top bottom (length old) = f ∙ ap (λ z. answer_of z (record_size top bottom)) (sym e) in
      let n = ap number_of a ∙ answer-number top bottom (length old) in
      record {
        answer = a;
        number = n;
        length = ap length_of a ∙ answer-length top bottom (length old) ∙ ap (λ z. if_accepted z (record_size top bottom) 0) (sym n);
        bytes = g ∙ ap (λ z. if_accepted z (laid (canonical top bottom) old) old) (sym e);
      }

  -- the rows are refused
  pub refused_rows : (r : Refusal) → number r ≡ rows_refused top bottom 256 → Ensured (Err r) old
  unfolding refused
  refused_rows r e =
      let later : ℕ = pick (ltb (length old) (record_size top bottom)) 18 0 in
      ensured_by (number r) (Err r) old (ap (λ z. first_refusal z later) (sym e) ∙ first_here (number r) later (number_nonzero r))
      (refused_is (number r) (record_size top bottom) r refl)
      (sym (accepted_old (number r) (laid (canonical top bottom) old) old (number_nonzero r)))

  module _ (rows : rows_refused top bottom 256 ≡ 0) where
    -- accepted rows: the slice's own refusal, by the test of its length
    slice_by : (q : Bool) → ltb (length old) (record_size top bottom) ≡ q → refused top bottom (length old) ≡ pick q 18 0
    unfolding refused
    slice_by q e = ap₂ (λ k p. first_refusal k (pick p 18 0)) rows e

    -- the bytes are new
    pub bytes_new : record_size top bottom ≤ length old → bytes_after top bottom old ≡ laid (canonical top bottom) old
    unfolding bytes_after
    bytes_new h = ap (λ z. if_accepted z (laid (canonical top bottom) old) old) (slice_by _ (le-ltb (length old) (record_size top bottom) h))

    -- the slice is too short
    pub refused_slice : length old < record_size top bottom → Ensured (Err OutputTooShort) old
    refused_slice h = ensured_by 18 (Err OutputTooShort) old (slice_by _ (lt-ltb (length old) (record_size top bottom) h)) refl refl

    -- the record is written
    pub record_put : {u w : Writer} → u.written ≡ 0 → u.bytes.now ≡ old → record_size top bottom ≤ length old → Puts u (canonical top bottom) w
        → Ensured (Ok w.written) w.bytes.now
    record_put {u} {w} z e h p =
        let l = put_laid z p in
        ensured_by 0 (Ok w.written) w.bytes.now (slice_by _ (le-ltb (length old) (record_size top bottom) h))
        (ap Ok (l.0 ∙ canonical-length top bottom (accepted_rows top bottom rows).same)) (l.1 ∙ ap (λ o. laid (canonical top bottom) o) e)
