-- `density` meets its contract: the largest stored count is the density.
use mathlib.Core.Path.{◌∙◌}
use Rattle.board.specs.Board.{board_with}
use Rattle.board.proofs.Stored.{stored_density}
use Rattle.board.proofs.density.Goals as goal

pub returns : goal.returns
returns c = λ ch top bottom h.
    let a = c.args in
    let n = c.columns_held in
    c.largest.ensures ∙ stored_density ch (board_with a.columns top bottom a.counts.now) h n.result n.ensures
