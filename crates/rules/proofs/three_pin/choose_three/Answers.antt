-- `choose_three` meets its contract.
use Rattle.rules.proofs.Moves.{moves}
use Rattle.sweep.proofs.Rules.Kinds.{not_both_none, rule_two}
use mathlib.Core.Path.{sym, ◌∙◌}
use Rattle.sweep.specs.ThreePin
use borrow.Author.Tests.{eq-eqb, ne_eqb}
use Rattle.rules.proofs.three_pin.choose_three.Goals as goal

pub returns-then-a-eq0 : goal.returns-then-a-eq0
unfolding ThreePin.choose_three
returns-then-a-eq0 c t e = simp (eq-eqb _ _ c.if-a-eq0.true, eq-eqb _ 0 (sym c.if-a-b.true ∙ c.if-a-eq0.true)) (moves c.still.ensures c.join_alone.ensures)

pub returns-then-a-b : goal.returns-then-a-b
unfolding ThreePin.choose_three
returns-then-a-b c t e = simp (ne_eqb _ _ c.if-a-eq0.false, eq-eqb _ _ c.if-a-b.true) (moves c.still-then-a-b.ensures (c.go_full.ensures t e))

pub returns-then-n-may_join : goal.returns-then-n-may_join
unfolding ThreePin.choose_three
returns-then-n-may_join c t e =
    simp (not_both_none _ _ c.if-a-b.false, ne_eqb _ _ c.if-a-b.false, rule_two, sym c.may_join.ensures, c.if-n-may_join.true) (moves c.still-then-n-may_join.ensures c.join_net.ensures)

pub returns : goal.returns
unfolding ThreePin.choose_three
returns c t e =
    simp (not_both_none _ _ c.if-a-b.false, ne_eqb _ _ c.if-a-b.false, rule_two, sym c.may_join.ensures, c.if-n-may_join.false) c.kinds_three.ensures
