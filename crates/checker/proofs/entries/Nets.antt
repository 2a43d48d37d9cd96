-- Entries that are neither 0 nor a net.
use Prim.Native.Nat.{ℕ, ◌+◌, ◌≤◌, ◌<◌}
use mathlib.Core.Path.{◌≡◌, sym, ◌∙◌, ap}
use mathlib.Core.Logic.{◌≢◌, ◌⊎◌, inl, inr, by_cases}
use mathlib.Core.Bool.{Bool, true, false, not, ◌&&◌, ◌||◌}
use mathlib.Core.List.{List}
use lib.ListN.{length, get_or, set, replicate, length-set, length-replicate}
use lib.Seq.{get_or-set_same, get_or-set_other}
use lib.Dec.{eqb, ltb}
use native.Mathlib.Omega.{arith}
use native.Mathlib.Decide.{ℕ_discrete, dec_le}
use Rattle.grid.specs.Channel.{pins}
use Rattle.grid.proofs.Tests.{eq-eqb, ne_eqb, eqb-false, not-true, and_none, lt-ltb, le-ltb}
use Rattle.checker.specs.Check.{strange}
use Rattle.checker.specs.Working.{PinTable, unknown, first_below, KnownMarks}
use Rattle.checker.proofs.Least.{first_same}

-- 0 is known
pub unknown_zero : (m : List ℕ) (e : ℕ) → e ≡ 0 → false ≡ unknown m e
unfolding unknown
unknown_zero m e x = rw (eq-eqb e 0 x)

-- a number with a pin is
pub unknown-taken : (m : List ℕ) (e : ℕ) → e ≢ 0 → e ≤ 256 → get_or m e 0 ≢ 0 → false ≡ unknown m e
unfolding unknown
unknown-taken m e x y z = rw (ne_eqb e 0 x, le-ltb 256 e y, ne_eqb (get_or m e 0) 0 z)

-- at first all numbers are marked, and 0 is known
pub marks_start : (m : List ℕ) → KnownMarks m (replicate 257 true) 1
marks_start m = record { long = length-replicate {A = Bool} 257 true; known = λ v l e. sym (unknown_zero m v (omega arith)) }

-- then one number after the other keeps its mark if it has a pin
pub marks_more :
    (m : List ℕ) (r : List Bool) (v : ℕ) → KnownMarks m r v → 1 ≤ v → v < 257 → KnownMarks m (set r v (not (eqb (get_or m v 0) 0))) (v + 1)
marks_more m r v x k l = record {
  long = length-set r v (not (eqb (get_or m v 0) 0)) ∙ x.long;
  known = λ w n e. by_cases (ℕ_discrete w v) (here w e) (λ z. x.known w (omega arith) (rw (get_or-set_other r v w (not (eqb (get_or m v 0) 0)) false z) at e));
}
  where
    here : (w : ℕ) → get_or (set r v (not (eqb (get_or m v 0) 0))) w false ≡ true → w ≡ v → unknown m w ≡ false
    here w e z =
        let f : not (eqb (get_or m v 0) 0) ≡ true = sym (get_or-set_same r v (not (eqb (get_or m v 0) 0)) false (omega (arith, x.long))) ∙ ap (λ (k : ℕ). get_or (set r v (not (eqb (get_or m v 0) 0))) k false) (sym z) ∙ e in
        rw z (sym (unknown-taken m v (omega arith) (omega arith) (eqb-false (get_or m v 0) 0 (not-true (eqb (get_or m v 0) 0) f))))

-- to the last
pub marks_all : (m : List ℕ) (r : List Bool) (v : ℕ) → KnownMarks m r v → 257 ≤ v → KnownMarks m r 257
marks_all m r v x l = record { long = x.long; known = λ w n e. x.known w (omega arith) e }

-- by the table of pins an entry is unknown exactly if it is strange
unknown-strange : (top bottom m D : List ℕ) → PinTable top bottom m → (p : ℕ) → unknown m (get_or D p 0) ≡ strange top bottom D p
unfolding unknown
unknown-strange top bottom m D K p = go (get_or D p 0) (ℕ_discrete (get_or D p 0) 0) (dec_le (get_or D p 0) 256)
  where
    go :
        (e : ℕ) → Dec (e ≡ 0) → Dec (e ≤ 256)
        → not (eqb e 0) && (ltb 256 e || eqb (get_or m e 0) 0) ≡ not (eqb e 0) && eqb (pins top bottom e) 0
    go e (yes z) d = rw (eq-eqb e 0 z)
    go e (no z) (yes l) = rw (ne_eqb e 0 z, le-ltb 256 e l, K.figures.at e (omega arith) l)
    go e (no z) (no l) = rw (ne_eqb e 0 z, lt-ltb 256 e (omega arith), K.none e (omega arith))

-- so the lowest unknown entry is the lowest strange one
pub first-strange :
    (top bottom m D : List ℕ) → PinTable top bottom m
    → first_below (length D) (λ p. unknown m (get_or D p 0)) ≡ first_below (length D) (strange top bottom D)
first-strange top bottom m D K = first_same (length D) (λ p. unknown m (get_or D p 0)) (strange top bottom D) (λ k l. unknown-strange top bottom m D K k)

-- an entry that is not strange is 0 or a net
pub strange_not : (top bottom D : List ℕ) (p : ℕ) → strange top bottom D p ≡ false → (get_or D p 0 ≡ 0) ⊎ (0 < pins top bottom (get_or D p 0))
strange_not top bottom D p e =
    by_cases (ℕ_discrete (get_or D p 0) 0) (λ z. inl z)
    (λ z.
    let n : pins top bottom (get_or D p 0) ≢ 0 = eqb-false (pins top bottom (get_or D p 0)) 0 (rw (ne_eqb (get_or D p 0) 0 z) at e) in
    inr (omega arith))

-- and back
pub not_strange : (top bottom D : List ℕ) (p : ℕ) → (get_or D p 0 ≡ 0) ⊎ (0 < pins top bottom (get_or D p 0)) → strange top bottom D p ≡ false
not_strange top bottom D p (inl z) = rw (eq-eqb (get_or D p 0) 0 z)
not_strange top bottom D p (inr l) =
    and_none (not (eqb (get_or D p 0) 0)) (eqb (pins top bottom (get_or D p 0)) 0) (ne_eqb (pins top bottom (get_or D p 0)) 0 (omega arith))
