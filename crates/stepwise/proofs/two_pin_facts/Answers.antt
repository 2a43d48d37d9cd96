-- `two_pin_facts` meets its contract.
use mathlib.Core.Path.{◌∙◌}
use Rattle.grid.proofs.Numbers.{passed_on}
use Rattle.stepwise.proofs.Begin.{rows_not_taken, pairs_taken, larger_not_taken}
use Rattle.stepwise.proofs.two_pin_facts.Goals as goal

pub returns-in_err-facts : goal.returns-in_err-facts
returns-in_err-facts c =
    let e = c.in_err-facts.field-0.0 in
    passed_on _ e c.from_residual.ensures.1 ∙ rows_not_taken c.args.top.now c.args.bottom.now e c.in_err-facts.ensures.number

pub returns-in-TwoPin : goal.returns-in-TwoPin
returns-in-TwoPin c = pairs_taken c.args.top.now c.args.bottom.now _ c.in_ok-facts.ensures.answer c.in-TwoPin.is

pub returns-in-ThreePin : goal.returns-in-ThreePin
returns-in-ThreePin c = larger_not_taken c.args.top.now c.args.bottom.now _ c.in_ok-facts.ensures.answer c.in-ThreePin.is
