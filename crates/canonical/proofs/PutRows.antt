-- Numbers put as bytes: one, and a row of them. Assumes nothing.
use Prim.Native.Nat.{ℕ, ◌+◌, ◌*◌, ◌≤◌, ◌<◌}
use native.Mathlib.Omega.{arith}
use native.Mathlib.Numerals.{add-one}
use mathlib.Core.Path.{◌≡◌, refl, ap, sym, ◌∙◌}
use mathlib.Core.List.{List, [], ◌∷◌, ◌++◌, map, map-append}
use lib.ListN.{length, get_or, take, length-map}
use lib.Seq.{length-take-le, take-suc, take_all}
use Rattle.record.specs.Record.{two_bytes, words}
use Rattle.record.specs.Writing.{Room, Puts}
use Rattle.record.specs.declared.writing.Writer.{Writer}
use Rattle.record.proofs.Words.{words-length, words_append}
use Rattle.record.proofs.Put.{put_then, put_as}

-- A ROW, number by number

module _ (f : ℕ → ℕ) (row : List ℕ) where
  -- the bytes of the first i numbers
  abbrev pub words_to : ℕ → List ℕ
  words_to i = words (map f (take i row))

  pub words_to_none : [] ≡ words_to 0
  unfolding words
  words_to_none = refl

  words_to-length : (i : ℕ) → i ≤ length row → length (words_to i) ≡ 2 * i
  words_to-length i h = words-length (map f (take i row)) ∙ omega (arith, length-map (take i row) f, length-take-le i row h)

  words_to_more : (i : ℕ) → i < length row → words_to i ++ two_bytes (f (get_or row i 0)) ≡ words_to (i + 1)
  unfolding words
  words_to_more i h =
      sym
      (ap words_to (add-one i)
      ∙ ap (λ z. words (map f z)) (take-suc row i 0 h)
      ∙ ap words (map-append f (take i row) (get_or row i 0 ∷ []))
      ∙ words_append (map f (take i row)) (f (get_or row i 0) ∷ []))

  -- room for one number more
  pub row_room : {u v : Writer} (i : ℕ) → i < length row → Room u (words (map f row)) → Puts u (words_to i) v → Room v (two_bytes (f (get_or row i 0)))
  row_room i h r p =
      record { room = omega (arith, r.room, p.ends, p.keeps, words_to-length i (omega arith), words-length (map f row), length-map row f) }

  -- one number more
  pub row_more : {u v w : Writer} (i : ℕ) → i < length row → Puts u (words_to i) v → Puts v (two_bytes (f (get_or row i 0))) w → Puts u (words_to (i + 1)) w
  row_more i h p q = put_as (put_then p q) (words_to (i + 1)) (words_to_more i h)

  -- all of them
  pub row_all : {u v : Writer} (i : ℕ) → length row ≤ i → Puts u (words_to i) v → Puts u (words (map f row)) v
  row_all i h p = put_as p (words (map f row)) (ap (λ z. words (map f z)) (take_all i row h))
