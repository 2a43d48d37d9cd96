-- The laws of a table of refusals: a number chosen by tests is the first that applies; a call is let through just if its number is 0. Assumes nothing.
use Prim.Native.Nat.{ℕ}
use mathlib.Core.Path.{◌≡◌, refl, sym, ◌∙◌}
use mathlib.Core.Logic.{◌≢◌, ◌↔◌, inl, inr, ⊎_elim}
use mathlib.Core.Bool.{Bool, true, false}
use Rattle.grid.specs.Channel.{pick}
use Rattle.demands.specs.Table.{Table, end, line, First, LetsThrough}

-- a line by a test: it applies where the test says so
pub by_test : {A : Type 0} (b : Bool) (n k : ℕ) (rest : Table) → (b ≡ true → A) → (b ≡ false → A → ⊥) → (b ≡ false → First rest k)
    → First (line n A rest) (pick b n k)
unfolding First
by_test true n k rest f g h = inl (f refl, refl)
by_test false n k rest f g h = inr (g refl, h refl)

-- past a line
pub past_line : (n : ℕ) (A : Type 0) (k : ℕ) (rest rest' : Table) → (First rest k → First rest' k) → First (line n A rest) k → First (line n A rest') k
unfolding First
past_line n A k rest rest' f (inl a) = inl a
past_line n A k rest rest' f (inr (a, r)) = inr (a, f r)

-- two lines of one number are one line
pub one_line : {A B C : Type 0} (n k : ℕ) (rest : Table) → (A → C) → (B → C) → ((A → ⊥) → (B → ⊥) → C → ⊥)
    → First (line n A (line n B rest)) k → First (line n C rest) k
unfolding First
one_line n k rest f g h (inl (a, e)) = inl (f a, e)
one_line n k rest f g h (inr (a, inl (b, e))) = inl (g b, e)
one_line n k rest f g h (inr (a, inr (b, r))) = inr (h a b, r)

-- past the last line
pub at_end : First end 0
unfolding First
at_end = refl

-- no line has the number 0
unfoldable pub Numbered : Table → Type 0
Numbered end = Unit {0}
Numbered (line n A rest) = (n ≢ 0) × Numbered rest

-- a call with the number 0 is let through
lets : (T : Table) → Numbered T → (k : ℕ) → First T k → k ≡ 0 → LetsThrough T
unfolding Numbered First LetsThrough
lets end p k f z = tt
lets (line n A rest) p k f z =
    ⊎_elim (λ (a : A × (k ≡ n)). absurd (p.0 (sym a.1 ∙ z))) (λ (a : (A → ⊥) × First rest k). (a.0, lets rest p.1 k a.1 z)) f

-- a call that is let through has it
number_zero : (T : Table) (k : ℕ) → First T k → LetsThrough T → k ≡ 0
unfolding First LetsThrough
number_zero end k f l = f
number_zero (line n A rest) k f l =
    ⊎_elim (λ (a : A × (k ≡ n)). absurd (l.0 a.0)) (λ (a : (A → ⊥) × First rest k). number_zero rest k a.1 l.1) f

-- both
pub zero_just_if_let : (T : Table) → Numbered T → (k : ℕ) → First T k → (k ≡ 0) ↔ LetsThrough T
zero_just_if_let T p k f = (lets T p k f, number_zero T k f)

-- the first number is one
pub first_unique : (T : Table) (j k : ℕ) → First T j → First T k → j ≡ k
unfolding First
first_unique end j k f g = f ∙ sym g
first_unique (line n A rest) j k f g =
    ⊎_elim
    (λ (a : A × (j ≡ n)). ⊎_elim (λ (b : A × (k ≡ n)). a.1 ∙ sym b.1) (λ (b : (A → ⊥) × First rest k). absurd (b.0 a.0)) g)
    (λ (a : (A → ⊥) × First rest j). ⊎_elim (λ (b : A × (k ≡ n)). absurd (a.0 b.0)) (λ (b : (A → ⊥) × First rest k). first_unique rest j k a.1 b.1) g)
    f
