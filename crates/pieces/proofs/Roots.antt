-- How many edges of a net bear their own number as their label, and that a hook which changes a label takes one of them.
use Prim.Native.Nat.{ℕ, zero, suc, ◌+◌, ◌≤◌, ◌<◌}
use mathlib.Core.Path.{◌≡◌, refl, sym, ◌∙◌, ap, ap₂, subst, fun_ext}
use mathlib.Core.Logic.{◌≢◌, by_cases}
use mathlib.Core.Bool.{Bool, true, false, ◌&&◌}
use mathlib.Core.List.{List}
use lib.Dec.{eqb}
use native.Mathlib.Omega.{arith}
use native.Mathlib.Decide.{ℕ_discrete}
use Rattle.grid.specs.Channel.{bit}
use Rattle.grid.proofs.Tests.{eq-eqb, ne_eqb, eqb-true, and_true}
use Rattle.pieces.specs.Labels.{sub, target, hook, tally, root, roots, lost}
use Rattle.pieces.proofs.Hooks.{sub_hit, sub_miss, sub_self, hook_is, Target, own, from, target_is, Faithful}

-- one that passes is counted
tally_one : (n : ℕ) (P : ℕ → Bool) (a : ℕ) → a < n → P a ≡ true → 1 ≤ tally n P
unfolding tally
tally_one zero P a l x = absurd (omega arith)
tally_one (suc n) P a l x = go (λ k. tally_one n P a k x) (ℕ_discrete a n)
  where
    go : (a < n → 1 ≤ tally n P) → Dec (a ≡ n) → 1 ≤ bit (P n) + tally n P
    go r (yes e) = omega (arith, ap bit (subst (λ (k : ℕ). P k ≡ true) e x))
    go r (no e) = omega (arith, r (omega arith))

-- and two are
pub tally_two : (n : ℕ) (P : ℕ → Bool) (a b : ℕ) → a < b → b < n → P a ≡ true → P b ≡ true → 2 ≤ tally n P
unfolding tally
tally_two zero P a b k l x y = absurd (omega arith)
tally_two (suc n) P a b k l x y = go (λ k'. tally_two n P a b k k' x y) (ℕ_discrete b n)
  where
    go : (b < n → 2 ≤ tally n P) → Dec (b ≡ n) → 2 ≤ bit (P n) + tally n P
    go r (yes e) = omega (arith, ap bit (subst (λ (k : ℕ). P k ≡ true) e y), tally_one n P a (omega arith) x)
    go r (no e) = omega (arith, r (omega arith))

-- where none passes the count is 0
tally_none : (n : ℕ) (P : ℕ → Bool) → ((p : ℕ) → p < n → P p ≡ false) → tally n P ≡ 0
unfolding tally
tally_none zero P h = refl
tally_none (suc n) P h = omega (arith, ap bit (h n (omega arith)), tally_none n P (λ p l. h p (omega arith)))

-- where all that pass are equal it is at most 1
pub tally_most : (n : ℕ) (P : ℕ → Bool) → ((p q : ℕ) → p < n → q < n → P p ≡ true → P q ≡ true → p ≡ q) → tally n P ≤ 1
unfolding tally
tally_most zero P h = omega arith
tally_most (suc n) P h = go (tally_most n P (λ p q k l. h p q (omega arith) (omega arith))) (P n) refl
  where
    none : P n ≡ true → (p : ℕ) → p < n → (b : Bool) → P p ≡ b → P p ≡ false
    none x p l true y = absurd (omega (arith, h p n (omega arith) (omega arith) y x))
    none x p l false y = y

    go : tally n P ≤ 1 → (b : Bool) → P n ≡ b → bit (P n) + tally n P ≤ 1
    go r true x = rw x (omega (arith, tally_none n P (λ p l. none x p l (P p) refl)))
    go r false x = rw x (omega arith)

-- equal tests have one count
pub tally_same : (n : ℕ) (P Q : ℕ → Bool) → ((p : ℕ) → p < n → P p ≡ Q p) → tally n P ≡ tally n Q
unfolding tally
tally_same zero P Q h = refl
tally_same (suc n) P Q h = ap₂ ◌+◌ (ap bit (h n (omega arith))) (tally_same n P Q (λ p l. h p (omega arith)))

-- tests that differ at one number
tally_less :
    (n : ℕ) (P Q : ℕ → Bool) (a : ℕ) → a < n → P a ≡ true → Q a ≡ false → ((p : ℕ) → p ≢ a → P p ≡ Q p) → tally n P ≡ tally n Q + 1
unfolding tally
tally_less zero P Q a l x y h = absurd (omega arith)
tally_less (suc n) P Q a l x y h = go (λ k. tally_less n P Q a k x y h) (ℕ_discrete a n)
  where
    go : (a < n → tally n P ≡ tally n Q + 1) → Dec (a ≡ n) → bit (P n) + tally n P ≡ bit (Q n) + tally n Q + 1
    go r (yes e) =
        omega (
          arith,
          ap bit (subst (λ (k : ℕ). P k ≡ true) e x),
          ap bit (subst (λ (k : ℕ). Q k ≡ false) e y),
          tally_same n P Q (λ p k. h p (omega arith)),
        )
    go r (no e) = omega (arith, ap bit (h n (λ k. e (sym k))), r (omega arith))

-- the test from the facts
pub is_root : (net f : ℕ → ℕ) (N p : ℕ) → net p ≡ N → f p ≡ p → root net f N p ≡ true
is_root net f N p x y = rw (eq-eqb (net p) N x, eq-eqb (f p) p y)

-- and back
pub root_is : (net f : ℕ → ℕ) (N p : ℕ) → root net f N p ≡ true → (net p ≡ N) × (f p ≡ p)
root_is net f N p x = let (m, o) = and_true (eqb (net p) N) (eqb (f p) p) x in (eqb-true (net p) N m, eqb-true (f p) p o)

module _ (net : ℕ → ℕ) (L : ℕ → ℕ → ℕ → Type 0) (n : ℕ) (inside : (p : ℕ) → net p ≢ 0 → p < n) where
  -- the roots before a hook are those after it and what the hook takes
  pub roots-hook :
      (f : ℕ → ℕ) (cs : List ℕ) (e N : ℕ) → Faithful net L f
      → roots net f n N ≡ roots net (hook net f cs e) n N + lost (f e) (target net f cs e) (net e) N
  unfolding roots
  roots-hook f cs e N g = rw (fun_ext (hook_is net f cs e)) (go (target_is net f cs e))
    where
      same : {b : ℕ} → f e ≡ b → tally n (root net f N) ≡ tally n (root net (λ p. sub (f e) b (f p)) N) + lost (f e) b (net e) N
      same {b} x = rw (← x, fun_ext (λ p. sub_self (f e) (f p)), eq-eqb (f e) (f e) refl) (omega arith)

      others : (q : ℕ) → f e ≢ f q → (p : ℕ) → p ≢ f e → eqb (f p) p ≡ eqb (sub (f e) (f q) (f p)) p
      others q x p y =
          by_cases (ℕ_discrete (f p) (f e))
          (λ z.
          ne_eqb (f p) p (λ w. y (sym w ∙ z))
          ∙ sym (ap (λ (k : ℕ). eqb k p) (sub_hit (f e) (f q) (f p) z) ∙ ne_eqb (f q) p (λ w. x (sym z ∙ ap f (sym w) ∙ g.idem q))))
          (λ z. ap (λ (k : ℕ). eqb k p) (sym (sub_miss (f e) (f q) (f p) z)))

      elsewhere : (q : ℕ) → f e ≢ f q → (p : ℕ) → p ≢ f e → root net f N p ≡ root net (λ p. sub (f e) (f q) (f p)) N p
      elsewhere q x p y = ap (◌&&◌ (eqb (net p) N)) (others q x p y)

      differ :
          (q : ℕ) → net e ≢ 0 → f e ≢ f q → Dec (net e ≡ N)
          → tally n (root net f N) ≡ tally n (root net (λ p. sub (f e) (f q) (f p)) N) + lost (f e) (f q) (net e) N
      differ q o x (yes z) =
          rw (ne_eqb (f e) (f q) x, eq-eqb (net e) N z)
          (tally_less n (root net f N) (root net (λ p. sub (f e) (f q) (f p)) N) (f e) (inside (f e) (λ w. o (sym (g.keep e) ∙ w)))
          (is_root net f N (f e) (g.keep e ∙ z) (g.idem e))
          (rw (eq-eqb (net (f e)) N (g.keep e ∙ z), g.idem e, sub_hit (f e) (f q) (f e) refl) (ne_eqb (f q) (f e) (λ w. x (sym w))))
          (elsewhere q x))
      differ q o x (no z) =
          rw (ne_eqb (f e) (f q) x, ne_eqb (net e) N z)
          (omega (
            arith,
            tally_same n (root net f N) (root net (λ p. sub (f e) (f q) (f p)) N)
                (λ p l.
                by_cases (ℕ_discrete p (f e))
                (λ y. let k : eqb (net p) N ≡ false = ne_eqb (net p) N (λ w. z (sym (g.keep e) ∙ ap net (sym y) ∙ w)) in rw k)
                (elsewhere q x p)),
          ))

      go : {b : ℕ} → Target net f cs e b → tally n (root net f N) ≡ tally n (root net (λ p. sub (f e) b (f p)) N) + lost (f e) b (net e) N
      go (own x) = same (sym x)
      go (from q i m o x) = rw x (by_cases (ℕ_discrete (f e) (f q)) (λ z. same z) (λ z. differ q o z (ℕ_discrete (net e) N)))
