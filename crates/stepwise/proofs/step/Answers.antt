-- `step` meets its contract.
use Rattle.stepwise.proofs.Onwards.{step_short, step_drew}
use mathlib.Core.Path.{refl}
use Rattle.stepwise.proofs.step.Goals as goal

pub returns-then-layout-formula : goal.returns-then-layout-formula
returns-then-layout-formula c = record {
  channel = λ top bottom t d S. step_short S c.formula.ensures c.if-layout-formula.true;
  refused = (λ z. refl);
  slice = λ z. refl;
}

pub returns : goal.returns
returns c =
    record {
      channel = λ top bottom t d S. step_drew S c.formula.ensures c.if-layout-formula.false c.draw-e.ensures c.has_next.ensures.value;
      refused = (λ z. absurd (z refl));
      slice = λ z. absurd (z refl);
    }
