-- `many_column` meets its contract.
use Prim.Native.Nat.{ℕ}
use mathlib.Core.Path.{refl, ap, ap₂, ◌∙◌}
use lib.ListN.{get_or}
use Rattle.sweep.specs.declared.Free.{Free}
use Rattle.sweep.specs.declared.Joint.{Joint}
use Rattle.sweep.specs.ManyPin.{choose_many}
use Rattle.sweep.specs.Working.{no_pins, join_alone}
use Rattle.sweep.specs.Tracks.{second}
use Rattle.grid.specs.Channel.{pick}
use Rattle.router.specs.Lent.{on}
use Rattle.router.specs.Working.{joint_by}
use Rattle.router.proofs.lent.Sweep.many_column.Goals as goal

pub joint_at-n-requires : goal.joint_at-n-requires
joint_at-n-requires c = (c.requires.0, c.net_of-v.ensures.0)

pub returns : goal.returns
returns c h small N j =
    let g = c.args in
    let s = g.self.now in
    let t = s.plan.t in
    let last = s.plan.last.now in
    let low = s.strands.low.now in
    let high = s.strands.high.now in
    let f = c.free_tracks-f.ensures t s.strands.tracks.nets.now h.fits h.sized h.frees in
    let v = c.net_to_join in
    let same = c.net_of-v.ensures.1 (small v.result v.ensures) in
    c.choose_many.ensures t refl
    ∙ ap₂ (λ (z : Free) (i : Joint). pick (no_pins g.a g.b) (join_alone i) (choose_many t g.a g.b z i g.later)) f
    (c.joint_at-n.ensures t h
    ∙ ap (λ (u : ℕ). joint_by (get_or last u 0) (get_or low u 0) (second u (on t s.strands)) (get_or high u 0) g.c u) same
    ∙ j v.result v.ensures)
