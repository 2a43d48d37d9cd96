-- `apply` meets its contract: each step starts from what the one before it left.
use Rattle.router.proofs.Laws.Arrays.{own, after_step, free_held}
use Rattle.router.proofs.Laws.Lent.{same_strands}
use Rattle.sweep.specs.Tracks.{clear, give}
use Rattle.sweep.specs.Tracks
use Rattle.router.specs.Lent.{on}
use Rattle.router.proofs.lent.Strands.apply.Goals as goal

pub returns : goal.returns
unfolding Tracks.after
returns c =
    let o = c.args in
    let x = o.x in
    let d1 = c.drop_net.ensures in
    let d2 = c.drop_net-2.ensures in
    let a1 = c.add_strand.ensures in
    let a2 = c.add_strand-2.ensures in
    let a3 = c.add_strand-3.ensures in
    record {
      held = λ t a h.
          let t1 = clear x.ended (on t o.self.now) in
          let t2 = clear x.closed t1 in
          let t3 = give x.gift1.track x.gift1.net t2 in
          let t4 = give x.gift2.track x.gift2.net t3 in
          let r1 = d1.held t a.ended h in
          let r2 = after_step (clear x.closed) {tr = t1} r1 (d2.held t a.closed (own {tr = t1} r1)) in
          let f1 = free_held x.gift1.track {tr = t2} r2 a.free1 in
          let r3 = after_step (give x.gift1.track x.gift1.net) {tr = t2} r2 (a1.held t a.net1 f1 (own {tr = t2} r2)) in
          let f2 = free_held x.gift2.track {tr = t3} r3 a.free2 in
          let r4 = after_step (give x.gift2.track x.gift2.net) {tr = t3} r3 (a2.held t a.net2 f2 (own {tr = t3} r3)) in
          let f3 = free_held x.gift3.track {tr = t4} r4 a.free3 in
          after_step (give x.gift3.track x.gift3.net) {tr = t4} r4 (a3.held t a.net3 f3 (own {tr = t4} r4));
      lent = same_strands (same_strands (same_strands (same_strands d1.lent d2.lent) a1.lent) a2.lent) a3.lent;
    }
