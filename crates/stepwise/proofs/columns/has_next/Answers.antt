-- `has_next` meets its contract.
use Rattle.stepwise.proofs.Onwards.{left_over, left_within, left_past}
use Rattle.grid.proofs.Tests.{not_both}
use mathlib.Core.Path.{refl, subst}
use Prim.Native.Nat.{ℕ, ◌≤◌, ◌<◌}
use Rattle.stepwise.proofs.columns.has_next.Goals as goal

pub returns-then-c-gt511 : goal.returns-then-c-gt511
returns-then-c-gt511 c = record {
  c_bound = λ e. absurd (not_both e refl);
  value = λ tp bt up lo first last a f low high number t n S. left_over S c.if-c-gt511.true;
}

pub returns-then-c-n : goal.returns-then-c-n
returns-then-c-n c = record {
  c_bound = (λ e. c.if-c-gt511.false);
  value = λ tp bt up lo first last a f low high number t n S. left_within S (subst (λ (z : ℕ). c.args.c < z) n c.if-c-n.true);
}

pub returns : goal.returns
returns c = record {
  c_bound = (λ e. c.if-c-gt511.false);
  value = λ tp bt up lo first last a f low high number t n S.
      left_past S c.lowest_member.result (subst (λ (z : ℕ). z ≤ c.args.c) n c.if-c-n.false) c.lowest_member.ensures;
}
