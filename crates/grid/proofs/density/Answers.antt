-- `grid::density` meets its contract: the row check's figure, or its refusal.
use mathlib.Core.Path.{◌∙◌}
use Rattle.grid.proofs.Numbers.{passed_on}
use Rattle.grid.proofs.Answers.{density_promise, density_refused, density_told}
use Rattle.grid.proofs.density.Goals as goal

pub returns-in_err-size : goal.returns-in_err-size
returns-in_err-size c =
    let top = c.args.top.now in
    let bottom = c.args.bottom.now in
    let e = c.in_err-size.field-0.0 in
    let p = passed_on _ e c.from_residual.ensures.1 ∙ density_refused top bottom e c.in_err-size.ensures.number in
    let q = density_promise top bottom _ p in
    record { answer = p; number = q.0; figure = q.1 }

pub returns : goal.returns
returns c =
    let top = c.args.top.now in
    let bottom = c.args.bottom.now in
    let p = density_told top bottom _ c.in_ok-size.ensures.answer in
    let q = density_promise top bottom _ p in
    record { answer = p; number = q.0; figure = q.1 }
