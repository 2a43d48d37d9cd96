-- `pin_at_lem` meets its contract.
use Rattle.router.specs.Working
use borrow.Author.Tests.{eq-eqb, ne_eqb}
use Rattle.router.proofs.lent.Strands.pin_at.Goals as goal

pub returns-then-v-eq0 : goal.returns-then-v-eq0
unfolding Working.pin_by
returns-then-v-eq0 c = rw (eq-eqb _ _ c.if-v-eq0.true)

pub returns : goal.returns
unfolding Working.pin_by
returns c = simp (ne_eqb _ _ c.if-v-eq0.false, c.from-i.ensures, rw c.from-i.ensures at c.kind_at-kind.ensures)
