-- `draw_column` meets its contract: one column is written, or nothing.
use Rattle.router.proofs.Laws.Steps.{column-drawn, column_dry}
use Rattle.router.specs.Working.{tracks_in, with_column}
use Rattle.router.proofs.columns.draw_column.Goals as goal

pub write_at-requires : goal.write_at-requires
write_at-requires c =
    (c.requires.0, c.requires.1 c.if-drawing.true)

pub returns-then-drawing : goal.returns-then-drawing
returns-then-drawing c h =
    let o = c.args in
    let x = with_column o.t o.at o.x (tracks_in o.t o.tracks.now.nets.now) o.layout.now in
    column-drawn o.drawing x o.layout.now _ c.if-drawing.true (c.write_at.ensures h)

pub returns-else-drawing : goal.returns-else-drawing
returns-else-drawing c h = column_dry _ _ _ c.if-drawing.false
