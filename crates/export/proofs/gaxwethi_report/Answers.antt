-- `gaxwethi_report` meets its contract: without a drawing the layout is not read.
use mathlib.Core.Path.{◌∙◌, ap}
use mathlib.Core.List.{[]}
use Rattle.checker.specs.declared.Told.{Told}
use Rattle.checker.specs.Check.{told_of}
use Rattle.report.specs.declared.Drawing.TheVariants.{Absent}
use Rattle.report.proofs.Answers.{number}
use Rattle.export.proofs.gaxwethi_report.Goals as goal

pub returns : goal.returns
returns c =
    let r = c.report_numbers-answer in
    let a = c.args in
    record {
      answer = ap (λ (t : Told). t.number) (c.from.ensures ∙ ap told_of r.ensures.answer) ∙ number a.top.now a.bottom.now Absent [] _;
      figures = r.ensures.figures;
    }
