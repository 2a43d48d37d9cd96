-- Numbers counted in four tables as a loop goes over a list of them. Assumes nothing.
use Prim.Native.Nat.{ℕ, ◌+◌, ◌≤◌, ◌<◌}
use mathlib.Core.Path.{◌≡◌, refl, sym, ap, ◌∙◌, subst}
use mathlib.Core.Bool.{Bool, true, false}
use mathlib.Core.List.{List}
use native.Mathlib.Omega.{arith}
use native.Mathlib.Numerals.{add-one}
use lib.Dec.{eqb}
use lib.ListN.{length, take, get_or, set, length-set}
use lib.Seq.{take_all, get_or-set_same, get_or-set_other}
use Rattle.grid.specs.Channel.{bit, times, over}
use Rattle.grid.specs.Nets.{zero_table}
use Rattle.grid.specs.Working.{ByNet}
use Rattle.grid.proofs.Tests.{bit_most, Same, same, diff, same_by}
use Rattle.grid.proofs.Counting.{zeros, times-take}
use Rattle.grid.proofs.Scanning.{none_over}
use Rattle.grid.proofs.Tables.{zero_table-length, tallied, tallied_at}
use Rattle.report.specs.Working.{four, FourTables, CountedTo}

-- no entry is counted in zeros
pub none_counted : (D a b c d : List ℕ) → a ≡ zero_table → b ≡ zero_table → c ≡ zero_table → d ≡ zero_table → CountedTo D 0 a b c d
unfolding zero_table times
none_counted D a b c d p q r s = record {
  tables = record {
    sizes = (zero_table-length a p, zero_table-length b q, zero_table-length c r, zero_table-length d s);
    most = λ v. omega (arith, none v);
  };
  counts = λ v n. none v;
}
  where
    none : (v : ℕ) → four a b c d v ≡ 0
    none v = rw (p, q, r, s) (omega (arith, zeros 257 v))

-- a number that fits a table, and room for one more
pub tally_room : (a b c d : List ℕ) (m e : ℕ) → FourTables a b c d m → m ≤ 600000 → e ≤ 256
    → ((e < length a) × (get_or a e 0 ≤ 600000)) × ((e < length b) × (get_or b e 0 ≤ 600000)) × ((e < length c) × (get_or c e 0 ≤ 600000)) × ((e < length d) × (get_or d e 0 ≤ 600000))
tally_room a b c d m e h l s =
    let (x, y, z, u) = h.sizes in
    let k = h.most e in
    ((omega arith, omega arith), (omega arith, omega arith), (omega arith, omega arith), (omega arith, omega arith))

-- one entry more, in whichever table
more : (D : List ℕ) (i : ℕ) (a b c d a' b' c' d' : List ℕ) → CountedTo D i a b c d
    → (length a' ≡ length a) × (length b' ≡ length b) × (length c' ≡ length c) × (length d' ≡ length d)
    → ((v : ℕ) → four a' b' c' d' v ≡ four a b c d v + bit (eqb (get_or D i 0) v)) → CountedTo D (i + 1) a' b' c' d'
more D i a b c d a' b' c' d' h l e = record {
  tables = record {
    sizes =
        let (x, y, z, u) = h.tables.sizes in
        let (p, q, r, s) = l in
        (p ∙ x, q ∙ y, r ∙ z, s ∙ u);
    most = λ v. omega (arith, e v, h.tables.most v, bit_most (eqb (get_or D i 0) v));
  };
  counts = λ v n. e v ∙ ap (λ (k : ℕ). k + bit (eqb (get_or D i 0) v)) (h.counts v n) ∙ sym (times-take v D i n) ∙ ap (λ (k : ℕ). times v (take k D)) (sym (add-one i));
}

-- four entries more, each in a table of its own
pub four_counted : (D : List ℕ) (i : ℕ) (a b c d : List ℕ) → over D ≡ false → CountedTo D i a b c d
    → CountedTo D (i + 4) (tallied a (get_or D i 0)) (tallied b (get_or D (i + 1) 0)) (tallied c (get_or D (i + 2) 0)) (tallied d (get_or D (i + 3) 0))
four_counted D i a b c d o h =
    let (x, y, z, u) = h.tables.sizes in
    let a' = tallied a (get_or D i 0) in
    let b' = tallied b (get_or D (i + 1) 0) in
    let c' = tallied c (get_or D (i + 2) 0) in
    let d' = tallied d (get_or D (i + 3) 0) in
    let h₁ = more D i a b c d a' b c d h (length-set a (get_or D i 0) _, refl, refl, refl) (λ v. omega (arith, put a i v x)) in
    let h₂ = more D (i + 1) a' b c d a' b' c d h₁ (refl, length-set b (get_or D (i + 1) 0) _, refl, refl) (λ v. omega (arith, put b (i + 1) v y)) in
    let h₃ = more D (i + 2) a' b' c d a' b' c' d (to (i + 1 + 1) (i + 2) (omega arith) h₂) (refl, refl, length-set c (get_or D (i + 2) 0) _, refl) (λ v. omega (arith, put c (i + 2) v z)) in
    let h₄ = more D (i + 3) a' b' c' d a' b' c' d' (to (i + 2 + 1) (i + 3) (omega arith) h₃) (refl, refl, refl, length-set d (get_or D (i + 3) 0) _) (λ v. omega (arith, put d (i + 3) v u)) in
    to (i + 3 + 1) (i + 4) (omega arith) h₄
  where
    put : (l : List ℕ) (k v : ℕ) → length l ≡ 257 → get_or (tallied l (get_or D k 0)) v 0 ≡ get_or l v 0 + bit (eqb (get_or D k 0) v)
    put l k v n = tallied_at l (get_or D k 0) v (omega (arith, none_over D k o))

    to : {a b c d : List ℕ} (k m : ℕ) → k ≡ m → CountedTo D k a b c d → CountedTo D m a b c d
    to {a} {b} {c} {d} k m e g = subst (λ (n : ℕ). CountedTo D n a b c d) e g

-- all entries
pub all_counted : (D : List ℕ) (i : ℕ) (a b c d sums : List ℕ) → CountedTo D i a b c d → length D ≤ i → length sums ≡ 257
    → ((v : ℕ) → v < 257 → get_or sums v 0 ≡ four a b c d v) → ByNet (λ v. times v D) sums
all_counted D i a b c d sums h l n e = record {
  size = n;
  at = λ v p q. e v (omega arith) ∙ h.counts v (omega arith) ∙ ap (times v) (take_all i D l);
}

-- a table that is written from the front: so far it has the values of f
pub record Summed (f : ℕ → ℕ) (k : ℕ) (sums : List ℕ) : Type 0 where
  pub size : length sums ≡ 257
  pub done : (v : ℕ) → v < k → get_or sums v 0 ≡ f v

-- one more
pub summed_more : (f : ℕ → ℕ) (k : ℕ) (sums : List ℕ) (x : ℕ) → Summed f k sums → k < 257 → x ≡ f k → Summed f (k + 1) (set sums k x)
summed_more f k sums x h l e = record {
  size = length-set sums k x ∙ h.size;
  done = λ v m. go v m (eqb v k) (same_by v k);
}
  where
    go : (v : ℕ) → v < k + 1 → (q : Bool) → Same v k q → get_or (set sums k x) v 0 ≡ f v
    go v m true (same z) = ap (λ (j : ℕ). get_or (set sums k x) j 0) z ∙ get_or-set_same sums k x 0 (omega (arith, h.size)) ∙ e ∙ ap f (sym z)
    go v m false (diff n) = get_or-set_other sums k v x 0 n ∙ h.done v (omega arith)
