-- `report::check_drawing` meets its contract: nothing without a drawing, else the checker's own answer.
use mathlib.Core.Path.{◌∙◌, sym, ap}
use Rattle.report.specs.declared.Drawing.{Drawing}
use Rattle.report.specs.Working.{drawing_reported}
use Rattle.report.proofs.Answers.{checker_reported}
use Rattle.report.proofs.check_drawing.Goals as goal

pub returns-in-Absent : goal.returns-in-Absent
returns-in-Absent c =
    let a = c.args in
    sym (ap (λ (d : Drawing). drawing_reported a.top.now a.bottom.now d a.layout.now) c.in-Absent.is)

pub returns-in-Given : goal.returns-in-Given
returns-in-Given c =
    let a = c.args in
    c.check.ensures.answer ∙ checker_reported a.top.now a.bottom.now _ _ a.layout.now c.requires
    ∙ sym (ap (λ (d : Drawing). drawing_reported a.top.now a.bottom.now d a.layout.now) c.in-Given.is)
