-- `gaxwethi_report_drawing` meets its contract: the fault as numbers.
use mathlib.Core.Path.{◌∙◌, ap}
use Rattle.checker.specs.Check.{told_of}
use Rattle.export.specs.Export.{told_by}
use Rattle.export.proofs.gaxwethi_report_drawing.Goals as goal

pub returns : goal.returns
returns c =
    let r = c.report_numbers-answer in
    record {
      answer = c.from-2.ensures ∙ ap told_by (c.from.ensures ∙ ap told_of r.ensures.answer);
      figures = r.ensures.figures;
    }
