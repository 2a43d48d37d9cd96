-- The bytes of a channel's record, read back. Assumes nothing.
use Prim.Native.Nat.{ℕ, zero, suc, ◌+◌, ◌*◌, ◌/◌, ◌%◌, ◌≤◌, ◌<◌}
use mathlib.Core.Path.{◌≡◌, refl, sym, ap, ap₂, ◌∙◌}
use mathlib.Core.List.{List, [], ◌∷◌, ◌++◌}
use native.Mathlib.Omega.{arith}
use lib.ListN.{length, get_or, take, drop, length-append, length-drop}
use lib.Seq.{take-suc, take_at, drop_at, get_or-drop, take_all}
use Rattle.std.specs.Prelude.{Ok}
use Rattle.record.specs.Record.{word, row, record_refused, record_read, columns, top_row, bottom_row, two_bytes, words, fields, record_of}
use Rattle.record.proofs.Refusals.{whole, channel_is}

-- two bytes to a number
pub words-length : (l : List ℕ) → length (words l) ≡ 2 * length l
unfolding words
words-length [] = refl
words-length (x ∷ xs) = omega (arith, words-length xs)

pub words_append : (l r : List ℕ) → words (l ++ r) ≡ words l ++ words r
unfolding words
words_append [] r = refl
words_append (x ∷ xs) r = ap (λ z. two_bytes x ++ z) (words_append xs r)

-- numbers that two bytes hold
abbrev pub Small : List ℕ → Type 0
Small l = (i : ℕ) → get_or l i 0 < 65536

-- two bytes further
two_further : (a b : ℕ) (s : List ℕ) (at : ℕ) → word (a ∷ b ∷ s) (suc (suc at)) ≡ word s at
two_further a b s at = ap (λ z. get_or s at 0 + 256 * get_or (a ∷ b ∷ s) z 0) (let x : suc (suc at) + 1 ≡ suc (suc (at + 1)) = omega arith in x)

-- the number at each place
word_at : (l : List ℕ) → Small l → (i at : ℕ) → at ≡ 2 * i → word (words l) at ≡ get_or l i 0
unfolding words
word_at [] s i at e = none at
  where
    none : (j : ℕ) → word [] j ≡ 0
    none j = omega arith
word_at (x ∷ xs) s zero at e = ap (word (words (x ∷ xs))) e ∙ omega (arith, s 0)
word_at (x ∷ xs) s (suc i) at e = ap (word (words (x ∷ xs))) (next e) ∙ two_further (x % 256) (x / 256 % 256) (words xs) (2 * i) ∙ word_at xs (λ j. s (suc j)) i (2 * i) refl
  where
    next : at ≡ 2 * suc i → at ≡ suc (suc (2 * i))
    next h = omega arith

-- a row of them
row_at : (l : List ℕ) → Small l → (j k at : ℕ) → at ≡ 2 * j → j + k ≤ length l → row (words l) at k ≡ take k (drop j l)
unfolding row
row_at l s j zero at e h = refl
row_at l s j (suc k) at e h =
    ap₂ (λ a b. a ++ (b ∷ [])) (row_at l s j k at e (omega arith)) (word_at l s (j + k) (at + 2 * k) (omega arith) ∙ sym (get_or-drop j l k 0))
    ∙ sym (take-suc (drop j l) k 0 (omega (arith, length-drop j l)))

-- what holds of each number of two lists holds of those of both; P also holds of 0, which stands past the end
pub append_all : (P : ℕ → Type 0) (l r : List ℕ) → ((i : ℕ) → P (get_or l i 0)) → ((i : ℕ) → P (get_or r i 0)) → (i : ℕ) → P (get_or (l ++ r) i 0)
append_all P [] r h g i = g i
append_all P (x ∷ xs) r h g zero = h 0
append_all P (x ∷ xs) r h g (suc i) = append_all P xs r (λ j. h (suc j)) g i

-- the record of two rows of one length
pub record_length : (top bottom : List ℕ) → length top ≡ length bottom → length (record_of top bottom) ≡ 6 + 4 * length top
unfolding record_of
record_length top bottom same = words-length (fields top bottom) ∙ omega (arith, length-append top bottom)

module _ (top bottom : List ℕ) (same : length top ≡ length bottom) (few : length top ≤ 256) (above : Small top) (below : Small bottom) where
  fields_small : Small (fields top bottom)
  fields_small zero = omega arith
  fields_small (suc zero) = omega arith
  fields_small (suc (suc zero)) = omega arith
  fields_small (suc (suc (suc i))) = append_all (λ v. v < 65536) top bottom above below i

  -- its number at place i
  field_at : (i at : ℕ) → at ≡ 2 * i → word (record_of top bottom) at ≡ get_or (fields top bottom) i 0
  unfolding record_of
  field_at = word_at (fields top bottom) fields_small

  -- is not refused
  not_refused : 0 ≡ record_refused (record_of top bottom)
  not_refused =
      let n = record_length top bottom same in
      whole (record_of top bottom) (omega arith) (omega arith)
      (4 + 4 * length top) (sym (field_at 0 0 refl)) (omega arith)
      1 (sym (field_at 1 2 refl)) refl
      (omega arith) (length top) (sym (field_at 2 4 refl)) (omega arith)

  -- and is read as these rows
  pub record_read_lem : record_read (record_of top bottom) ≡ Ok (length top)
  record_read_lem = sym (channel_is (record_of top bottom) (length top) not_refused (sym (field_at 2 4 refl)))

  pub record_top : top_row (record_of top bottom) ≡ top
  unfolding top_row record_of
  record_top =
      ap (λ z. row (record_of top bottom) 6 (columns z)) record_read_lem
      ∙ row_at (fields top bottom) fields_small 3 (length top) 6 refl (omega (arith, length-append top bottom))
      ∙ take_at top bottom (length top) refl

  pub record_bottom : bottom_row (record_of top bottom) ≡ bottom
  unfolding bottom_row record_of
  record_bottom =
      ap (λ z. row (record_of top bottom) (6 + 2 * columns z) (columns z)) record_read_lem
      ∙ row_at (fields top bottom) fields_small (3 + length top) (length top) (6 + 2 * length top) (omega arith) (omega (arith, length-append top bottom))
      ∙ ap (take (length top)) (dropped (3 + length top) refl)
      ∙ take_all (length top) bottom (omega arith)
    where
      dropped : (j : ℕ) → j ≡ 3 + length top → drop j (fields top bottom) ≡ bottom
      dropped j e = ap (λ z. drop z (fields top bottom)) (let x : j ≡ suc (suc (suc (length top))) = omega arith in x) ∙ drop_at top bottom (length top) refl
