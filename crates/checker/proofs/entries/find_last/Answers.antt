-- `checker::entries::find_last` meets its contract: the edges among the last t entries are those of the last column.
use mathlib.Core.Path.{◌∙◌}
use Rattle.std.proofs.lemmas.List.{take_rest}
use Rattle.checker.proofs.entries.Last.{last_found, last_missed}
use Rattle.checker.proofs.entries.find_last.Goals as goal

pub returns-in_err-edge : goal.returns-in_err-edge
returns-in_err-edge c =
    let a = c.args in
    let D = a.layout.now in
    c.from_residual.ensures
    ∙ last_missed a.w a.t D c.requires (rw c.saturating_sub-start.ensures at (rw (take_rest D c.saturating_sub-start.result) at c.in_err-edge.ensures))

pub returns : goal.returns
returns c =
    let a = c.args in
    let D = a.layout.now in
    rw c.saturating_sub-start.ensures
    (last_found a.w a.t D c.requires _ (rw c.saturating_sub-start.ensures at (rw (take_rest D c.saturating_sub-start.result) at c.in_ok-edge.ensures)))
