-- `settle` meets its contract, by `mates_settled`.
use Rattle.router.proofs.Laws.Marking.{mates_settled}
use Rattle.grid.proofs.Tests.{not_both}
use mathlib.Core.Path.{refl, sym, ◌∙◌}
use Prim.Native.Nat.{◌+◌}
use native.Mathlib.Omega.{arith}
use Rattle.router.proofs.lent.Mates.settle.Goals as goal

pub overflow_cast-k : goal.overflow_cast-k
overflow_cast-k c = omega (arith, c.requires)

pub overflow_add-k : goal.overflow_add-k
overflow_add-k c = omega (arith, c.requires)

pub returns-then-forms_pairs : goal.returns-then-forms_pairs
returns-then-forms_pairs c =
    let a = c.args in
    record {
      settled = λ top bottom ep eq r b e o.
          mates_settled top bottom a.plan.now.last.now a.c (a.c + 1) a.p a.q a.x a.strands.now.many.now a.self.now.mates.now _ a.self.now.lone.now _ refl
          ep eq r b o c.renew.ensures.mates c.renew.ensures.lone;
      lent = record { mates = refl; lone = refl };
    }

pub returns-else-forms_pairs : goal.returns-else-forms_pairs
returns-else-forms_pairs c =
    record {
      settled = λ top bottom ep eq r b e o. absurd (not_both e (sym c.forms_pairs.ensures ∙ c.if-forms_pairs.false));
      lent = record { mates = refl; lone = refl };
    }
