-- What the code's small steps and loops do: choosing a label, the labels of the tracks, the tables of pieces begun and of joins.
use Prim.Native.Nat.{ℕ, ◌+◌, ◌≤◌, ◌<◌}
use mathlib.Core.Path.{◌≡◌, refl, sym, ◌∙◌, ap}
use mathlib.Core.Logic.{◌≢◌, ◌⊎◌, inl, inr, by_cases}
use mathlib.Core.Bool.{Bool, true, false}
use mathlib.Core.List.{List, [], ◌∷◌, ◌++◌}
use lib.ListN.{length, get_or, set, take, drop, length-set}
use lib.Seq.{get_or-set_same, get_or-set_other}
use lib.Dec.{eqb}
use native.Mathlib.Omega.{arith}
use native.Mathlib.Decide.{ℕ_discrete}
use native.Mathlib.Numerals.{add-one}
use Rattle.std.proofs.Common.{length-append, length-drop}
use Rattle.std.proofs.lemmas.List.{get_or-take, get_or_append_left, length-take-le}
use Rattle.grid.specs.Channel.{pick, bit}
use Rattle.grid.proofs.Tests.{eq-eqb, ne_eqb, bit_most}
use Rattle.grid.proofs.Tables.{tallied_at}
use Rattle.pieces.specs.Labels.{sub, choose, target, lost}
use Rattle.pieces.proofs.Hooks.{sub_hit, sub_miss, sub_self}
use Rattle.checker.specs.Working.{chosen, Merged, Grown, JoinCounted, PieceCounted}

-- no edge keeps its label
pub chosen_zero : (net n l o : ℕ) → net ≡ 0 → chosen net n l o ≡ o
unfolding chosen
chosen_zero net n l o z = rw (eq-eqb net 0 z)

-- an edge of the net gives its label
pub chosen_hit : (net n l o : ℕ) → net ≢ 0 → net ≡ n → l ≡ chosen net n l o
unfolding chosen
chosen_hit net n l o z e = rw (ne_eqb net 0 z, eq-eqb net n e)

-- another does not
pub chosen_miss : (net n l o : ℕ) → net ≢ 0 → net ≢ n → o ≡ chosen net n l o
unfolding chosen
chosen_miss net n l o z e = rw (ne_eqb net 0 z, ne_eqb net n e)

-- nor if the net is 0
pub chosen_other : (net n l o : ℕ) → net ≢ n → chosen net n l o ≡ o
chosen_other net n l o e = by_cases (ℕ_discrete net 0) (chosen_zero net n l o) (λ z. sym (chosen_miss net n l o z e))

-- one of the two labels is chosen
pub chosen_either : (net n l o : ℕ) → (chosen net n l o ≡ l) ⊎ (chosen net n l o ≡ o)
unfolding chosen
chosen_either net n l o = go (eqb net 0) (eqb net n)
  where
    go : (x y : Bool) → (pick x o (pick y l o) ≡ l) ⊎ (pick x o (pick y l o) ≡ o)
    go true y = inr refl
    go false true = inl refl
    go false false = inr refl

-- the target of no edge is its label
pub target_zero : (net f : ℕ → ℕ) (cs : List ℕ) (e : ℕ) → net e ≡ 0 → target net f cs e ≡ f e
unfolding target
target_zero net f cs e z = rw (eq-eqb (net e) 0 z)

-- and so is the target among no edges
pub chosen_none : (net f : ℕ → ℕ) (e : ℕ) → target net f [] e ≡ f e
unfolding target choose
chosen_none net f e = by_cases (ℕ_discrete (net e) 0) (λ x. rw (eq-eqb (net e) 0 x)) (λ x. rw (ne_eqb (net e) 0 x))

-- one edge more: its label if it is of the net
pub chosen_more :
    (net f : ℕ → ℕ) (q : ℕ) (cs : List ℕ) (e l o : ℕ)
    → (net q ≢ 0 → l ≡ f q) → o ≡ target net f cs e → chosen (net e) (net q) l o ≡ target net f (q ∷ cs) e
unfolding chosen target choose
chosen_more net f q cs e l o a y = go (ℕ_discrete (net e) 0) (ℕ_discrete (net e) (net q)) y
  where
    go :
        Dec (net e ≡ 0) → Dec (net e ≡ net q) → o ≡ pick (eqb (net e) 0) (f e) (choose net f (net e) cs (f e))
        → pick (eqb (net e) 0) o (pick (eqb (net e) (net q)) l o)
        ≡ pick (eqb (net e) 0) (f e) (pick (eqb (net e) (net q)) (f q) (choose net f (net e) cs (f e)))
    go (yes z) d y = let k = eq-eqb (net e) 0 z in rw k (rw k at y)
    go (no z) (yes d) y = rw (ne_eqb (net e) 0 z, eq-eqb (net e) (net q) d) (a (λ k. z (d ∙ k)))
    go (no z) (no d) y = let k = ne_eqb (net e) 0 z in rw (k, ne_eqb (net e) (net q) d) (rw k at y)

-- a table that stays
grown_none : (a : List ℕ) → Grown a a
grown_none a = record { long = refl; most = λ N l. omega arith }

-- one that takes one more for a net
grown_one : (a : List ℕ) (M : ℕ) → M < length a → Grown a (set a M (get_or a M 0 + 1))
grown_one a M l = record {
  long = length-set a M (get_or a M 0 + 1);
  most = λ N i. omega (arith, tallied_at a M N l, bit_most (eqb M N));
}

-- equal labels are no join
pub joined_none : (a b M : ℕ) (joined : List ℕ) → a ≡ b → JoinCounted a b M joined joined
joined_none a b M joined e = record { grown = grown_none joined; counts = λ N l. rw (eq-eqb a b e) (omega arith) }

-- different labels are
pub joined_one :
    (a b M : ℕ) (joined : List ℕ) → a ≢ b → M < length joined → JoinCounted a b M joined (set joined M (get_or joined M 0 + 1))
joined_one a b M joined n l =
    record { grown = grown_one joined M l; counts = λ N i. rw (ne_eqb a b n) (tallied_at joined M N l) }

-- an edge that keeps its label begins a piece
pub begun_one : (a b M : ℕ) (begun : List ℕ) → a ≡ b → M < length begun → PieceCounted a b M begun (set begun M (get_or begun M 0 + 1))
begun_one a b M begun e l =
    record { grown = grown_one begun M l; counts = λ N n i. rw (eq-eqb a b e) (omega (arith, tallied_at begun M N l)) }

-- one that takes another does not, nor does no edge
pub begun_none : (a b M : ℕ) (begun : List ℕ) → (M ≢ 0 → a ≢ b) → PieceCounted a b M begun begun
begun_none a b M begun h = record { grown = grown_none begun; counts = λ N n i. ap (◌+◌ (get_or begun N 0)) (go N n (ℕ_discrete M 0)) }
  where
    none : (x : Bool) → pick x 0 (bit false) ≡ bit false
    none true = refl
    none false = refl

    go : (N : ℕ) → N ≢ 0 → Dec (M ≡ 0) → lost a b M N ≡ bit (eqb M N)
    go N n (yes z) = rw (ne_eqb M N (λ e. n (sym e ∙ z))) (none (eqb a b))
    go N n (no z) = rw (ne_eqb a b (h z))

-- the labels while the first k are changed
pub record Merging (old new : ℕ) (lab₀ lab : List ℕ) (k : ℕ) : Type 0 where
  pub long : length lab ≡ length lab₀
  pub below : (i : ℕ) → i < k → get_or lab i 0 ≡ sub old new (get_or lab₀ i 0)
  pub above : (i : ℕ) → k ≤ i → get_or lab i 0 ≡ get_or lab₀ i 0

-- at first
pub merge_none : (old new : ℕ) (lab : List ℕ) → Merging old new lab lab 0
merge_none old new lab = record { long = refl; below = λ i l. absurd (omega arith); above = λ i l. refl }

-- one that is changed
pub merge_hit :
    (old new : ℕ) (lab₀ lab : List ℕ) (k : ℕ)
    → Merging old new lab₀ lab k → k < length lab → get_or lab k 0 ≡ old → Merging old new lab₀ (set lab k new) (k + 1)
merge_hit old new lab₀ lab k m l e =
    rw (add-one k)
    (record {
      long = length-set lab k new ∙ m.long;
      below = λ i h.
          by_cases (ℕ_discrete i k)
          (λ x. rw x (get_or-set_same lab k new 0 l ∙ sym (sub_hit old new (get_or lab₀ k 0) (sym (m.above k (omega arith)) ∙ e))))
          (λ x. get_or-set_other lab k i new 0 x ∙ m.below i (omega arith));
      above = λ i h. get_or-set_other lab k i new 0 (omega arith) ∙ m.above i (omega arith);
    })

-- one that stays
pub merge_miss :
    (old new : ℕ) (lab₀ lab : List ℕ) (k : ℕ) → Merging old new lab₀ lab k → get_or lab k 0 ≢ old → Merging old new lab₀ lab (k + 1)
merge_miss old new lab₀ lab k m e =
    rw (add-one k)
    (record {
      long = m.long;
      below = λ i h.
          by_cases (ℕ_discrete i k)
          (λ x. rw x (m.above k (omega arith) ∙ sym (sub_miss old new (get_or lab₀ k 0) (λ y. e (m.above k (omega arith) ∙ y)))))
          (λ x. m.below i (omega arith));
      above = λ i h. m.above i (omega arith);
    })

-- a label for itself
pub merge_same : (old new t : ℕ) (lab : List ℕ) → old ≡ new → Merged old new t lab lab
merge_same old new t lab e = record { long = refl; at = λ k l. rw (← e) (sym (sub_self old (get_or lab k 0))) }

-- at the end, with the labels after the first t, which stay
pub merge_all :
    (old new t : ℕ) (lab₀ lab : List ℕ) (k : ℕ) → t ≤ length lab₀ → Merging old new (take t lab₀) lab k → length (take t lab₀) ≤ k
    → Merged old new t lab₀ (lab ++ drop t lab₀)
merge_all old new t lab₀ lab k h m l = record {
  long = length-append lab (drop t lab₀) ∙ omega (arith, m.long, length-take-le t lab₀ h, length-drop t lab₀);
  at = λ i j.
      get_or_append_left lab (drop t lab₀) 0 i (omega (arith, m.long, length-take-le t lab₀ h))
      ∙ m.below i (omega (arith, length-take-le t lab₀ h)) ∙ ap (sub old new) (get_or-take t lab₀ i 0 j);
}
