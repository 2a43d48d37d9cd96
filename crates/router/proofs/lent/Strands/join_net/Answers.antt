-- `join_net` meets its contract, by `joining_written`.
use Rattle.router.proofs.Laws.Added.{joining_is, joining_written}
use Rattle.router.specs.Lent.{on}
use Rattle.router.proofs.lent.Strands.join_net.Goals as goal

pub write_at-requires : goal.write_at-requires
write_at-requires c =
    (c.requires.held.fits, c.requires.fits)

pub returns : goal.returns
returns c =
    let o = c.args in
    let b = c.requires.is_net in
    let h = c.requires.held in
    let d = c.drop_net.ensures.held o.t b.1 h in
    let x = c.join_strands-x in record {
      net_ended = d;
      drawing = joining_written o.t o.self.now.tracks.nets.now o.v o.w o.layout.now _ x.result
          (joining_is (on o.t o.self.now) o.v _ _ x.result (rw c.from-i.ensures at x.ensures) (h.lows.at o.v b.0 b.1)
          (h.highs.at o.v b.0 b.1))
          d (c.write_at.ensures d.sized);
      lent = c.drop_net.ensures.lent;
    }
