-- `three_column` meets its contract, by `found_three`.
use Rattle.router.proofs.Laws.Doubles.{found_three}
use mathlib.Core.Path.{refl}
use Rattle.router.specs.Lent.{on}
use Rattle.router.proofs.lent.Sweep.three_column.Goals as goal

pub lowest_joint-n-requires : goal.lowest_joint-n-requires
lowest_joint-n-requires c = c.requires.2

pub returns : goal.returns
returns c h small =
    let f = c.free_tracks-f in
    let n = c.lowest_joint-n in
    let q = c.asks_doubles-asks in
    let v = c.latest_asked-v in
    let w = c.other_asked-w in
    let g = c.args in
    let s = g.self.now in
    let t = s.plan.t in
    found_three t g.a g.b s.plan.last.now s.strands.low.now s.strands.high.now s.marks.extended.now s.mates.lone.now
    (on t s.strands) g.c _ f.result n.result (f.ensures t s.strands.tracks.nets.now h.fits h.sized h.frees)
    (n.ensures t h small)
    q.result v.result w.result _ _ q.ensures v.ensures w.ensures c.double_at-d.ensures
    c.double_at-m.ensures (rw (c.from.ensures, c.from-2.ensures) at c.choose_three.ensures t refl)
