-- The lines of the table by the libraries' tests. Assumes nothing.
use Prim.Native.Nat.{ℕ, zero, suc, ◌+◌, ◌*◌, ◌-◌, ◌≤◌, ◌<◌}
use mathlib.Core.Path.{◌≡◌, refl, sym, subst, ap}
use mathlib.Core.Logic.{◌≢◌, ◌⊎◌, inl, inr, ⊎_elim}
use mathlib.Core.Bool.{Bool, true, false, not, ◌||◌}
use mathlib.Core.List.{List, [], ◌∷◌}
use native.Mathlib.Omega.{arith}
use lib.Dec.{eqb, ltb}
use lib.ListN.{length}
use Rattle.grid.specs.Channel.{pick, bit, sum, count, over, pins, rows_refused}
use Rattle.grid.specs.Refusals.{first_refusal}
use Rattle.grid.proofs.Tests.{ltb-true, ltb-false, eqb-true, eqb-false, not-true, not-false, or_false, not_both}
use Rattle.grid.proofs.Answers.{no_later}
use Rattle.grid.proofs.Rows.{rows_fit, rows_more}
use Rattle.record.specs.Record.{word, wrong_length, wrong_kind, wrong_body, record_refused}
use Rattle.demands.specs.Table.{Table, end, line, First, Over, of_record, of_lengths, of_rows, of_net_table}
use Rattle.demands.proofs.Table.{by_test, Numbered}

-- TESTS IN WORDS
-- a test of two
pub either : {A B : Type 0} (a b : Bool) → (a ≡ true → A) → (b ≡ true → B) → (a || b) ≡ true → A ⊎ B
either true b f g e = inl (f refl)
either false b f g e = inr (g e)

pub neither : {A B : Type 0} (a b : Bool) → (a ≡ false → A → ⊥) → (b ≡ false → B → ⊥) → (a || b) ≡ false → A ⊎ B → ⊥
neither {A} {B} a b f g e = let (p, q) = or_false a b e in ⊎_elim (λ (x : A). f p x) (λ (y : B). g q y)

-- an order and an equation
pub less : (x y : ℕ) → ltb x y ≡ false → x < y → ⊥
less x y e h = omega (arith, ltb-false x y e, h)

pub unequal : (x y : ℕ) → not (eqb x y) ≡ true → x ≢ y
unequal x y e = eqb-false x y (not-true (eqb x y) e)

pub equal : (x y : ℕ) → not (eqb x y) ≡ false → x ≢ y → ⊥
equal x y e n = n (eqb-true x y (not-false (eqb x y) e))

-- a number over 256
over-some : (l : List ℕ) → over l ≡ true → Over l
unfolding over
over-some [] e = absurd (not_both e refl)
over-some (x ∷ xs) e = go (ltb 256 x) refl (over-some xs) e
  where
    go : (b : Bool) → ltb 256 x ≡ b → (over xs ≡ true → Over xs) → (b || over xs) ≡ true → Over (x ∷ xs)
    go true q f d = (0, omega arith, ltb-true 256 x q)
    go false q f d = let (i, h, o) = f d in (suc i, omega arith, o)

over_none : (l : List ℕ) → over l ≡ false → Over l → ⊥
unfolding over
over_none [] e (i, h, o) = omega (arith, h)
over_none (x ∷ xs) e (zero, h, o) = omega (arith, o, ltb-false 256 x (or_false (ltb 256 x) (over xs) e).0)
over_none (x ∷ xs) e (suc i, h, o) = over_none xs (or_false (ltb 256 x) (over xs) e).1 (i, omega (arith, h), o)

-- one of the numbers 1 to k passes a test that does not fail for all
pub count-some : (p : ℕ → Bool) (k : ℕ) → count p k ≢ 0 → (v : ℕ) × (v ≢ 0) × (p v ≡ true)
unfolding count sum
count-some p zero n = absurd (n refl)
count-some p (suc k) n = go (p (suc k)) refl (count-some p k)
  where
    go : (b : Bool) → p (suc k) ≡ b → (count p k ≢ 0 → (v : ℕ) × (v ≢ 0) × (p v ≡ true)) → (v : ℕ) × (v ≢ 0) × (p v ≡ true)
    go true q f = (suc k, omega arith, q)
    go false q f = f (λ z. n (omega (arith, z, ap bit q)))

pub none_numbered : Numbered end
unfolding Numbered
none_numbered = tt

-- LENGTHS of the rows, then the places after them
pub lengths_lines : (n m most x : ℕ) (rest : Table) → (not (eqb n m) ≡ false → ltb most n ≡ false → First rest x)
    → First (of_lengths n m most rest) (pick (not (eqb n m)) 4 (pick (ltb most n) 5 x))
lengths_lines n m most x rest f =
    by_test (not (eqb n m)) 4 _ _ (unequal n m) (equal n m) (λ a. by_test (ltb most n) 5 _ _ (ltb-true most n) (less most n) (f a))

-- ROWS, then the places after them
module _ (top bottom : List ℕ) where
  -- some net has one pin
  lone_some : not (eqb (count (λ v. eqb (pins top bottom v) 1) 256) 0) ≡ true → (v : ℕ) × (v ≢ 0) × (pins top bottom v ≡ 1)
  lone_some e =
      let (v, n, q) = count-some (λ v. eqb (pins top bottom v) 1) 256 (unequal (count (λ v. eqb (pins top bottom v) 1) 256) 0 e) in
      (v, n, eqb-true (pins top bottom v) 1 q)

  -- accepted rows have none
  lone_none : (most : ℕ) → most ≤ 256 → rows_refused top bottom most ≡ 0 → ((v : ℕ) × (v ≢ 0) × (pins top bottom v ≡ 1)) → ⊥
  lone_none most m e (v, n, q) = (rows_fit top bottom (rows_more top bottom most 256 m e)).lone v (omega arith) q

  -- the rows' number, and the places after it
  after_rows : (a b c d : Bool) (x : ℕ) → first_refusal (pick a 4 (pick b 5 (pick c 6 (pick d 7 0)))) x ≡ pick a 4 (pick b 5 (pick c 6 (pick d 7 x)))
  after_rows true b c d x = refl
  after_rows false true c d x = refl
  after_rows false false true d x = refl
  after_rows false false false true x = refl
  after_rows false false false false x = refl

  -- none of the four tests
  all_false : (most : ℕ) → not (eqb (length top) (length bottom)) ≡ false → ltb most (length top) ≡ false → (over top || over bottom) ≡ false
      → not (eqb (count (λ v. eqb (pins top bottom v) 1) 256) 0) ≡ false → rows_refused top bottom most ≡ 0
  unfolding rows_refused
  all_false most a b c d = rw (a, b, c, d) refl

  pub rows_lines : (most : ℕ) → most ≤ 256 → (x : ℕ) (rest : Table) → (rows_refused top bottom most ≡ 0 → First rest x)
      → First (of_rows top bottom most rest) (first_refusal (rows_refused top bottom most) x)
  unfolding rows_refused
  rows_lines most m x rest f =
      subst (λ (k : ℕ). First (of_rows top bottom most rest) k)
      (sym (after_rows (not (eqb (length top) (length bottom))) (ltb most (length top)) (over top || over bottom)
      (not (eqb (count (λ v. eqb (pins top bottom v) 1) 256) 0)) x))
      (lengths_lines (length top) (length bottom) most _ _ (λ a b.
      by_test (over top || over bottom) 6 _ _ (either (over top) (over bottom) (over-some top) (over-some bottom))
      (neither (over top) (over bottom) (over_none top) (over_none bottom)) (λ c.
      by_test (not (eqb (count (λ v. eqb (pins top bottom v) 1) 256) 0)) 7 _ _ lone_some (λ d. lone_none most m (all_false most a b c d)) (λ d.
      f (all_false most a b c d)))))

  pub rows_numbered : (most : ℕ) (rest : Table) → Numbered rest → Numbered (of_rows top bottom most rest)
  unfolding Numbered
  rows_numbered most rest n = (omega arith, (omega arith, (omega arith, (omega arith, n))))

  -- of a call that has the rows alone
  pub rows_first : (most : ℕ) → most ≤ 256 → First (of_rows top bottom most end) (rows_refused top bottom most)
  unfolding First
  rows_first most m = subst (λ (k : ℕ). First (of_rows top bottom most end) k) (no_later (rows_refused top bottom most)) (rows_lines most m 0 end (λ e. refl))

-- LENT SLICE, of which `asked` entries are asked for; n is the number of the refusal
pub slice_first : (n asked lent : ℕ) → First (line n (lent < asked) end) (pick (ltb lent asked) n 0)
unfolding First
slice_first n asked lent = by_test (ltb lent asked) n 0 end (ltb-true lent asked) (less lent asked) (λ e. refl)

pub slice_numbered : (asked lent : ℕ) → Numbered (line 8 (lent < asked) end)
unfolding Numbered
slice_numbered asked lent = (omega arith, tt)

-- NET TABLE
pub table-lines : (lent x : ℕ) (rest : Table) → First rest x → First (of_net_table lent rest) (first_refusal (pick (ltb lent 256) 9 0) x)
table-lines lent x rest f =
    subst (λ (k : ℕ). First (of_net_table lent rest) k) (sym (after_table (ltb lent 256))) (by_test (ltb lent 256) 9 x rest (ltb-true lent 256) (less lent 256) (λ e. f))
  where
    after_table : (a : Bool) → first_refusal (pick a 9 0) x ≡ pick a 9 x
    after_table true = refl
    after_table false = refl

-- RECORD, then the places after it
module _ (s : List ℕ) where
  after_record : (a b c : Bool) (x : ℕ) → first_refusal (pick a 1 (pick b 2 (pick c 3 0))) x ≡ pick a 1 (pick b 2 (pick c 3 x))
  after_record true b c x = refl
  after_record false true c x = refl
  after_record false false true x = refl
  after_record false false false x = refl

  pub record_lines : (x : ℕ) (rest : Table) → First rest x → First (of_record s rest) (first_refusal (record_refused s) x)
  unfolding record_refused wrong_length wrong_kind wrong_body
  record_lines x rest f =
      subst (λ (k : ℕ). First (of_record s rest) k) (sym (after_record (wrong_length s) (wrong_kind s) (wrong_body s) x))
      (by_test (wrong_length s) 1 _ _
      (either (ltb (length s) 4) _ (ltb-true (length s) 4) (either (ltb 1030 (length s)) _ (ltb-true 1030 (length s)) (unequal (word s 0) (length s - 2))))
      (neither (ltb (length s) 4) _ (less (length s) 4) (neither (ltb 1030 (length s)) _ (less 1030 (length s)) (equal (word s 0) (length s - 2)))) (λ a.
      by_test (wrong_kind s) 2 _ _ (unequal (word s 2) 1) (equal (word s 2) 1) (λ b.
      by_test (wrong_body s) 3 _ _ (either (ltb (length s - 4) 2) _ (ltb-true (length s - 4) 2) (unequal (length s - 4) (2 + 4 * word s 4)))
      (neither (ltb (length s - 4) 2) _ (less (length s - 4) 2) (equal (length s - 4) (2 + 4 * word s 4))) (λ c. f))))

  pub record_numbered : (rest : Table) → Numbered rest → Numbered (of_record s rest)
  unfolding Numbered
  record_numbered rest n = (omega arith, (omega arith, (omega arith, n)))
