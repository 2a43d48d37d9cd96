-- `checker::check` meets its contract: the rows' refusal, or the answer on the drawing with the table of their pins.
use Rattle.grid.proofs.Numbers.{passed_on}
use Rattle.checker.specs.Check.{fault_at}
use Rattle.checker.proofs.Answers.{check_promise, refused-checked, known, accepted_checked}
use Rattle.checker.proofs.check.Goals as goal

pub returns-in_err-facts : goal.returns-in_err-facts
returns-in_err-facts c =
    let a = c.args in
    let e = c.in_err-facts.field-0.0 in
    check_promise a.top.now a.bottom.now a.w a.t a.layout.now _
    (refused-checked a.top.now a.bottom.now a.w a.t a.layout.now _ e c.in_err-facts.ensures.number (passed_on _ (fault_at e 0) c.from_residual.ensures.1))

pub check_drawing-requires : goal.check_drawing-requires
check_drawing-requires c =
    let a = c.args in
    known a.top.now a.bottom.now _ c.in_ok-facts.ensures.answer

pub returns : goal.returns
returns c =
    let a = c.args in
    check_promise a.top.now a.bottom.now a.w a.t a.layout.now _
    (accepted_checked a.top.now a.bottom.now _ c.in_ok-facts.ensures.answer a.w a.t a.layout.now _ c.check_drawing.ensures)
