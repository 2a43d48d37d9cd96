-- Which column of a three-pin channel is chosen does not depend on the double nets where no pin starts, where rule 2 has a net to join, or where the column has
-- pins of one net or none.
use Prim.Native.Nat.{ℕ, zero, suc}
use mathlib.Core.Path.{◌≡◌, refl}
use mathlib.Core.Logic.{◌⊎◌, inl, inr, ◌≢◌}
use Rattle.grid.proofs.Tests.{eq-eqb, ne_eqb}
use Rattle.sweep.specs.declared.Pin.{Pin}
use Rattle.sweep.specs.declared.Free.{Free}
use Rattle.sweep.specs.declared.Joint.{Joint}
use Rattle.sweep.specs.declared.Double.{Double}
use Rattle.sweep.specs.declared.Move.{Move}
use Rattle.sweep.specs.Rules.{kind_of}
use Rattle.sweep.specs.ThreePin.{join_else, by_kinds, choose_three}

-- no pin starts its net, or rule 2 has a net to join: the kinds k and l as numbers, v the net of rule 2
abbrev pub Idle : (k l v : ℕ) → Type 0
Idle k l v = ((k ≢ 1) × (l ≢ 1)) ⊎ (v ≢ 0)

module _ (A B : Pin) (ea eb : ℕ) (f : Free) (N : Joint) (D M D' M' : Double) where
  -- rule 2, whatever the other move is
  joins : N.net ≢ 0 → (x y : Move) → join_else N A.net B.net x ≡ join_else N A.net B.net y
  unfolding join_else
  joins h x y = rw (ne_eqb N.net 0 h)

  -- by the kinds
  kinds_idle : (k l : ℕ) → Idle k l N.net → by_kinds A B ea eb f N D M (kind_of k) (kind_of l) ≡ by_kinds A B ea eb f N D' M' (kind_of k) (kind_of l)
  unfolding by_kinds kind_of
  kinds_idle zero zero h = refl
  kinds_idle zero (suc zero) (inl h) = absurd (h.1 refl)
  kinds_idle zero (suc zero) (inr h) = joins h _ _
  kinds_idle zero (suc (suc zero)) h = refl
  kinds_idle zero (suc (suc (suc l))) h = refl
  kinds_idle (suc zero) zero (inl h) = absurd (h.0 refl)
  kinds_idle (suc zero) zero (inr h) = joins h _ _
  kinds_idle (suc zero) (suc zero) (inl h) = absurd (h.0 refl)
  kinds_idle (suc zero) (suc zero) (inr h) = joins h _ _
  kinds_idle (suc zero) (suc (suc zero)) (inl h) = absurd (h.0 refl)
  kinds_idle (suc zero) (suc (suc zero)) (inr h) = joins h _ _
  kinds_idle (suc zero) (suc (suc (suc l))) h = refl
  kinds_idle (suc (suc zero)) zero h = refl
  kinds_idle (suc (suc zero)) (suc zero) (inl h) = absurd (h.1 refl)
  kinds_idle (suc (suc zero)) (suc zero) (inr h) = joins h _ _
  kinds_idle (suc (suc zero)) (suc (suc zero)) h = refl
  kinds_idle (suc (suc zero)) (suc (suc (suc l))) h = refl
  kinds_idle (suc (suc (suc k))) zero h = refl
  kinds_idle (suc (suc (suc k))) (suc zero) h = refl
  kinds_idle (suc (suc (suc k))) (suc (suc zero)) h = refl
  kinds_idle (suc (suc (suc k))) (suc (suc (suc l))) h = refl

  -- the column
  pub doubles_idle : (t : ℕ) → Idle A.kind B.kind N.net ⊎ (A.net ≡ B.net) → choose_three t A B ea eb f N D M ≡ choose_three t A B ea eb f N D' M'
  unfolding choose_three
  doubles_idle t (inl h) = simp (kinds_idle A.kind B.kind h)
  doubles_idle t (inr h) = simp (eq-eqb A.net B.net h)
