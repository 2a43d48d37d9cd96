-- The strands of a net: which tracks its lowest, second and highest are, and that all lie between.
use Prim.Native.Nat.{ℕ, zero, suc, ◌+◌, ◌≤◌, ◌<◌, suc-le-suc}
use mathlib.Core.Path.{◌≡◌, refl, sym, ap, ◌∙◌, subst}
use mathlib.Core.Logic.{◌⊎◌, inl, inr, ◌≢◌}
use mathlib.Core.Bool.{Bool, true, false}
use mathlib.Core.List.{List, [], ◌∷◌}
use native.Mathlib.Omega.{arith}
use lib.Dec.{eqb}
use lib.ListN.{length, get_or, drop}
use Rattle.grid.specs.Channel.{pick, bit, times}
use Rattle.grid.proofs.Tests.{Same, same, diff, same_by}
use Rattle.grid.proofs.Counting.{holds_times, at_below}
use Rattle.sweep.specs.Tracks.{strands_from, strands, first, last, lowest, second, highest, many}

-- track f holds v, in a list of tracks that begins at track y
pub record At (y v : ℕ) (l : List ℕ) (f : ℕ) : Type 0 where
  pub index : ℕ
  pub is : f ≡ y + index
  pub inside : index < length l
  pub holds : get_or l index 0 ≡ v

-- what holds of each number of a list
abbrev pub All : (ℕ → Type 0) → List ℕ → Type 0
All P [] = Unit
All P (x ∷ xs) = P x × All P xs

-- a list that ascends from lo
abbrev pub Asc : ℕ → List ℕ → Type 0
Asc lo [] = Unit
Asc lo (x ∷ xs) = (lo ≤ x) × Asc (suc x) xs

-- what follows from a property of each number holds of each
all_map : (P Q : ℕ → Type 0) → ((x : ℕ) → P x → Q x) → (l : List ℕ) → All P l → All Q l
all_map P Q f [] a = tt
all_map P Q f (x ∷ xs) a = (f x a.0, all_map P Q f xs a.1)

-- a list that ascends from a number ascends from a smaller one
asc_less : (lo hi : ℕ) (l : List ℕ) → lo ≤ hi → Asc hi l → Asc lo l
asc_less lo hi [] h a = tt
asc_less lo hi (x ∷ xs) h a = (omega arith, a.1)

-- there are as many strands as tracks that hold the net
strands-length : (y v : ℕ) (l : List ℕ) → length (strands_from y v l) ≡ times v l
unfolding strands_from times
strands-length y v [] = refl
strands-length y v (x ∷ xs) = go (eqb x v) (strands-length (suc y) v xs)
  where
    go : (q : Bool) → length (strands_from (suc y) v xs) ≡ times v xs
        → length (pick q (y ∷ strands_from (suc y) v xs) (strands_from (suc y) v xs)) ≡ bit q + times v xs
    go true ih = omega arith
    go false ih = omega arith

-- strands ascend
strands_asc : (y v : ℕ) (l : List ℕ) → Asc y (strands_from y v l)
unfolding strands_from
strands_asc y v [] = tt
strands_asc y v (x ∷ xs) = go (eqb x v) (strands_asc (suc y) v xs)
  where
    go : (q : Bool) → Asc (suc y) (strands_from (suc y) v xs) → Asc y (pick q (y ∷ strands_from (suc y) v xs) (strands_from (suc y) v xs))
    go true ih = (omega arith, ih)
    go false ih = asc_less y (suc y) (strands_from (suc y) v xs) (omega arith) ih

-- each strand is a track that holds the net
strands_at : (y v : ℕ) (l : List ℕ) → All (At y v l) (strands_from y v l)
unfolding strands_from
strands_at y v [] = tt
strands_at y v (x ∷ xs) = go (eqb x v) (same_by x v) (all_map (At (suc y) v xs) (At y v (x ∷ xs)) down (strands_from (suc y) v xs) (strands_at (suc y) v xs))
  where
    down : (f : ℕ) → At (suc y) v xs f → At y v (x ∷ xs) f
    down f a = record { index = suc a.index; is = (let e = a.is in omega arith); inside = suc-le-suc a.inside; holds = a.holds }

    go : (q : Bool) → Same x v q → All (At y v (x ∷ xs)) (strands_from (suc y) v xs)
        → All (At y v (x ∷ xs)) (pick q (y ∷ strands_from (suc y) v xs) (strands_from (suc y) v xs))
    go true (same e) ih = (record { index = 0; is = omega arith; inside = omega arith; holds = e }, ih)
    go false d ih = ih

-- the first, second and last of a list have what each has
first_all : (P : ℕ → Type 0) (l : List ℕ) → All P l → 0 < length l → P (first l)
unfolding first
first_all P [] a h = absurd (omega arith)
first_all P (x ∷ xs) a h = a.0

second_all : (P : ℕ → Type 0) (l : List ℕ) → All P l → 1 < length l → P (first (drop 1 l))
unfolding first
second_all P [] a h = absurd (omega arith)
second_all P (x ∷ []) a h = absurd (omega arith)
second_all P (x ∷ y ∷ ys) a h = a.1.0

last_all : (P : ℕ → Type 0) (l : List ℕ) → All P l → 0 < length l → P (last l)
unfolding last
last_all P [] a h = absurd (omega arith)
last_all P (x ∷ []) a h = a.0
last_all P (x ∷ y ∷ ys) a h = last_all P (y ∷ ys) a.1 (omega arith)

-- in a list that ascends the first is below the second and the last, and the second below the last of three
first-second : (lo : ℕ) (l : List ℕ) → Asc lo l → 1 < length l → first l < first (drop 1 l)
unfolding first
first-second lo [] a h = absurd (omega arith)
first-second lo (x ∷ []) a h = absurd (omega arith)
first-second lo (x ∷ y ∷ ys) a h = a.1.0

lo_last : (lo : ℕ) (l : List ℕ) → Asc lo l → 0 < length l → lo ≤ last l
unfolding last
lo_last lo [] a h = absurd (omega arith)
lo_last lo (x ∷ []) a h = a.0
lo_last lo (x ∷ y ∷ ys) a h = let i = lo_last (suc x) (y ∷ ys) a.1 (omega arith) in let j = a.0 in omega arith

first_below_last : (lo : ℕ) (l : List ℕ) → Asc lo l → 1 < length l → first l < last l
unfolding first last
first_below_last lo [] a h = absurd (omega arith)
first_below_last lo (x ∷ []) a h = absurd (omega arith)
first_below_last lo (x ∷ y ∷ ys) a h = lo_last (suc x) (y ∷ ys) a.1 (omega arith)

second-last : (lo : ℕ) (l : List ℕ) → Asc lo l → 2 < length l → first (drop 1 l) < last l
unfolding first last
second-last lo [] a h = absurd (omega arith)
second-last lo (x ∷ []) a h = absurd (omega arith)
second-last lo (x ∷ y ∷ []) a h = absurd (omega arith)
second-last lo (x ∷ y ∷ z ∷ zs) a h = lo_last (suc y) (z ∷ zs) a.1.1 (omega arith)

-- the last of a longer list
last_of_more : (s : ℕ) (l : List ℕ) → 0 < length l → last (s ∷ l) ≡ last l
unfolding last
last_of_more s [] h = absurd (omega arith)
last_of_more s (x ∷ xs) h = refl

-- each track that holds the net lies from the first to the last strand
pub between_from : (s v : ℕ) (l : List ℕ) (i : ℕ) → i < length l → get_or l i 0 ≡ v → (first (strands_from s v l) ≤ s + i) × (s + i ≤ last (strands_from s v l))
unfolding strands_from first last
between_from s v [] i h g = absurd (omega arith)
between_from s v (x ∷ xs) zero h g = go (eqb x v) (same_by x v)
  where
    go : (q : Bool) → Same x v q → (first (pick q (s ∷ strands_from (suc s) v xs) (strands_from (suc s) v xs)) ≤ s + 0) × (s + 0 ≤ last
        (pick q (s ∷ strands_from (suc s) v xs) (strands_from (suc s) v xs)))
    go true o = (omega arith, let k = lo_last s (s ∷ strands_from (suc s) v xs) (omega arith, strands_asc (suc s) v xs) (omega arith) in omega arith)
    go false (diff n) = absurd (n g)
between_from s v (x ∷ xs) (suc i) h g = go (eqb x v) (between_from (suc s) v xs i (omega arith) g)
  where
    go : (q : Bool) → (first (strands_from (suc s) v xs) ≤ suc s + i) × (suc s + i ≤ last (strands_from (suc s) v xs))
        → (first (pick q (s ∷ strands_from (suc s) v xs) (strands_from (suc s) v xs)) ≤ s + suc i) × (s + suc i ≤ last
        (pick q (s ∷ strands_from (suc s) v xs) (strands_from (suc s) v xs)))
    go true ih =
        let k = ih.1 in
        let m = strands-length (suc s) v xs in
        let n = holds_times xs i v (omega arith) g in
        let o = last_of_more s (strands_from (suc s) v xs) (omega arith) in
        (omega arith, omega arith)
    go false ih = (omega (arith, ih.0), omega (arith, ih.1))

-- y stands in a list
abbrev Any : ℕ → List ℕ → Type 0
Any y [] = ⊥
Any y (x ∷ xs) = (y ≡ x) ⊎ Any y xs

-- each track that holds the net is a strand
member : (s v : ℕ) (l : List ℕ) (i : ℕ) → i < length l → get_or l i 0 ≡ v → Any (s + i) (strands_from s v l)
unfolding strands_from
member s v [] i h g = absurd (omega arith)
member s v (x ∷ xs) zero h g = go (eqb x v) (same_by x v)
  where
    go : (q : Bool) → Same x v q → Any (s + 0) (pick q (s ∷ strands_from (suc s) v xs) (strands_from (suc s) v xs))
    go true o = inl (omega arith)
    go false (diff n) = absurd (n g)
member s v (x ∷ xs) (suc i) h g = go (eqb x v) (member (suc s) v xs i (omega arith) g)
  where
    go : (q : Bool) → Any (suc s + i) (strands_from (suc s) v xs) → Any (s + suc i) (pick q (s ∷ strands_from (suc s) v xs) (strands_from (suc s) v xs))
    go true m = inr (subst (λ (z : ℕ). Any z (strands_from (suc s) v xs)) (omega arith) m)
    go false m = subst (λ (z : ℕ). Any z (strands_from (suc s) v xs)) (omega arith) m

-- of two numbers each is the first or the last, and of one both
any_ends : (y : ℕ) (l : List ℕ) → Any y l → length l ≤ 2 → (y ≡ first l) ⊎ (y ≡ last l)
unfolding first last
any_ends y [] m h = elim m [ ]
any_ends y (x ∷ []) (inl e) h = inl e
any_ends y (x ∷ []) (inr m) h = elim m [ ]
any_ends y (x ∷ z ∷ []) (inl e) h = inl e
any_ends y (x ∷ z ∷ []) (inr (inl e)) h = inr e
any_ends y (x ∷ z ∷ []) (inr (inr m)) h = elim m [ ]
any_ends y (x ∷ z ∷ u ∷ us) m h = absurd (omega arith)

any_lone : (y : ℕ) (l : List ℕ) → Any y l → length l ≤ 1 → (y ≡ first l) × (y ≡ last l)
unfolding first last
any_lone y [] m h = elim m [ ]
any_lone y (x ∷ []) (inl e) h = (e, e)
any_lone y (x ∷ []) (inr m) h = elim m [ ]
any_lone y (x ∷ z ∷ zs) m h = absurd (omega arith)

-- THE STRANDS OF A NET

-- track y holds v: it is a strand of net v, or a free track for 0
pub record Strand (v : ℕ) (tr : List ℕ) (y : ℕ) : Type 0 where
  pub index : ℕ
  pub is : y ≡ suc index
  pub inside : index < length tr
  pub holds : get_or tr index 0 ≡ v

-- a track that holds a net is a strand of it, and a strand is such a track
pub strand_of : (v : ℕ) (tr : List ℕ) (j : ℕ) → v ≢ 0 → get_or tr j 0 ≡ v → Strand v tr (suc j)
strand_of v tr j n e = record { index = j; is = refl; inside = at_below tr j v n e; holds = e }

pub strand_at : {v j : ℕ} {tr : List ℕ} → Strand v tr (suc j) → get_or tr j 0 ≡ v
strand_at {v} {j} {tr} s = let k : s.index ≡ j = omega (arith, s.is) in rw k at s.holds

-- a strand of an equal net
pub strand_is : {u v y : ℕ} {tr : List ℕ} → u ≡ v → Strand u tr y → Strand v tr y
strand_is {y} {tr} e = subst (λ (z : ℕ). Strand z tr y) e

-- a net with a strand is counted
pub strand_times : {v y : ℕ} {tr : List ℕ} → Strand v tr y → 0 < times v tr
strand_times {v} {y} {tr} s = holds_times tr s.index v s.inside s.holds

-- tracks that hold different nets differ
pub tracks_differ : {u v y z : ℕ} {tr : List ℕ} → Strand u tr y → Strand v tr z → u ≢ v → y ≢ z
tracks_differ {tr} s r d i = let k : s.index ≡ r.index = omega (arith, s.is, r.is) in d (sym s.holds ∙ ap (λ (j : ℕ). get_or tr j 0) k ∙ r.holds)

-- a track of the whole list
to_strand : (v : ℕ) (tr : List ℕ) (y : ℕ) → At 1 v tr y → Strand v tr y
to_strand v tr y a = record { index = a.index; is = omega (arith, a.is); inside = a.inside; holds = a.holds }

module _ (v : ℕ) (tr : List ℕ) where
  -- the lowest, highest and second strand are strands, where there are as many
  pub lowest_is : 0 < times v tr → Strand v tr (lowest v tr)
  unfolding lowest strands
  lowest_is h = to_strand v tr _ (first_all (At 1 v tr) (strands_from 1 v tr) (strands_at 1 v tr) (let e = strands-length 1 v tr in omega arith))

  pub highest_is : 0 < times v tr → Strand v tr (highest v tr)
  unfolding highest strands
  highest_is h = to_strand v tr _ (last_all (At 1 v tr) (strands_from 1 v tr) (strands_at 1 v tr) (let e = strands-length 1 v tr in omega arith))

  pub second_is_lem : 1 < times v tr → Strand v tr (second v tr)
  unfolding second strands
  second_is_lem h = to_strand v tr _ (second_all (At 1 v tr) (strands_from 1 v tr) (strands_at 1 v tr) (let e = strands-length 1 v tr in omega arith))

  -- in their order
  pub lowest<second : 1 < times v tr → lowest v tr < second v tr
  unfolding lowest second strands
  lowest<second h = first-second 1 (strands_from 1 v tr) (strands_asc 1 v tr) (let e = strands-length 1 v tr in omega arith)

  pub lowest<highest : 1 < times v tr → lowest v tr < highest v tr
  unfolding lowest highest strands
  lowest<highest h = first_below_last 1 (strands_from 1 v tr) (strands_asc 1 v tr) (let e = strands-length 1 v tr in omega arith)

  pub second<highest : 2 < times v tr → second v tr < highest v tr
  unfolding second highest strands
  second<highest h = second-last 1 (strands_from 1 v tr) (strands_asc 1 v tr) (let e = strands-length 1 v tr in omega arith)

  -- how many there are
  pub many-times : many v tr ≡ times v tr
  unfolding many strands
  many-times = strands-length 1 v tr

  -- every strand lies between the lowest and the highest
  pub between : (j : ℕ) → j < length tr → get_or tr j 0 ≡ v → (lowest v tr ≤ suc j) × (suc j ≤ highest v tr)
  unfolding lowest highest strands
  between j p e = let b = between_from 1 v tr j p e in (omega (arith, b.0), omega (arith, b.1))

  -- of at most two strands, each is the lowest or the highest
  pub two_strands : times v tr ≤ 2 → (j : ℕ) → j < length tr → get_or tr j 0 ≡ v → (suc j ≡ lowest v tr) ⊎ (suc j ≡ highest v tr)
  unfolding lowest highest strands
  two_strands h j p e = subst (λ (z : ℕ). (z ≡ first (strands_from 1 v tr)) ⊎ (z ≡ last (strands_from 1 v tr))) (omega arith)
      (any_ends (1 + j) (strands_from 1 v tr) (member 1 v tr j p e) (let k = strands-length 1 v tr in omega arith))

  -- one strand is both
  pub lone_strand : times v tr ≤ 1 → (j : ℕ) → j < length tr → get_or tr j 0 ≡ v → (suc j ≡ lowest v tr) × (suc j ≡ highest v tr)
  unfolding lowest highest strands
  lone_strand h j p e = subst (λ (z : ℕ). (z ≡ first (strands_from 1 v tr)) × (z ≡ last (strands_from 1 v tr))) (omega arith)
      (any_lone (1 + j) (strands_from 1 v tr) (member 1 v tr j p e) (let k = strands-length 1 v tr in omega arith))
