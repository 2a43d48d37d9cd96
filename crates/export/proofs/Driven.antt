-- The calls of a driven sweep for other languages, as the sweep's own. Assumes nothing.
use Prim.Native.Nat.{ℕ}
use mathlib.Core.Path.{◌≡◌, refl, sym, ap, subst, ◌∙◌}
use mathlib.Core.List.{List, ◌∷◌}
use lib.ListN.{length}
use Rattle.std.specs.Prelude.{Result, Ok, Err}
use Rattle.grid.specs.declared.refusals.Refusal.{Refusal}
use Rattle.grid.specs.Refusals.{number}
use Rattle.grid.proofs.Numbers.{refused_is}
use Rattle.stepwise.specs.declared.Stepped.{Stepped}
use Rattle.stepwise.specs.Sweep.{State, Stands, stepped, Steps}
use Rattle.stepwise.specs.Calls.{Call, Step, Leads, steps}
use Rattle.export.specs.declared.sweeps.StepResult.{StepResult}
use Rattle.export.specs.Export.{step_of, stepped_by}

-- a step's number and figures tell its answer
pub stepped_back : (a : Result Stepped Refusal) → stepped_by (step_of a) ≡ a
stepped_back (Ok x) = refl
stepped_back (Err e) = sym (refused_is (number e) _ e refl)

-- a call that tells the sweep's own answer a keeps its promise
pub step_told : {top bottom : List ℕ} {t c k : ℕ} {l l' : List ℕ} {x : State} (a : Result Stepped Refusal) (r : StepResult) → r ≡ step_of a
    → Steps top bottom t c k l l' a x
    → (r ≡ step_of (stepped top bottom t c k (length l))) × Steps top bottom t c k l l' (stepped_by r) x
step_told {top} {bottom} {t} {c} {k} {l} {l'} {x} a r told step = (
  told ∙ ap step_of step.answer,
  subst (λ (b : Result Stepped Refusal). Steps top bottom t c k l l' b x) (sym (ap stepped_by told ∙ stepped_back a)) step,
)

-- SO THE CALL IS A STEP OF A LIST OF CALLS: r is its answer, and it keeps its promise for each channel that the state before stands for
pub step_leads : (x x' y : State) (l l' m : List ℕ) (k : ℕ) (r : StepResult) (calls : List Call)
    → ((top bottom : List ℕ) (t c : ℕ) → Stands top bottom t c x
    → (r ≡ step_of (stepped top bottom t c k (length l))) × Steps top bottom t c k l l' (stepped_by r) x')
    → Leads x' l' calls y m → Leads x l (Step k ∷ calls) y m
step_leads x x' y l l' m k r calls call later = steps x x' y l l' m k (stepped_by r) calls (λ top bottom t c s. (call top bottom t c s).1) later
