-- `grid::spans::fill` meets its contract: the figures of the two passes, with 0 at 0.
use Rattle.grid.specs.Channel.{pins}
use Rattle.grid.specs.Nets.{first_column, last_column}
use Rattle.grid.proofs.Tables.{cleared}
use Rattle.grid.proofs.spans.fill.Goals as goal

pub returns : goal.returns
returns c =
    let top = c.args.top.now in
    let bottom = c.args.bottom.now in
    let l = c.note_from_left in
    let r = c.note_from_right in
    record {
      firsts = cleared (first_column top bottom) r.new.first r.ensures;
      lasts = cleared (last_column top bottom) l.new.last l.ensures.last;
      pinned = cleared (pins top bottom) l.new.pins l.ensures.pins;
    }
