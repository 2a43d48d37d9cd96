-- `lowest_joint` meets its contract.
use Prim.Native.Nat.{ℕ}
use mathlib.Core.Path.{ap, ◌∙◌}
use lib.ListN.{get_or}
use Rattle.sweep.specs.Tracks.{second}
use Rattle.router.specs.Lent.{on}
use Rattle.router.specs.Working.{joint_by}
use Rattle.router.proofs.lent.Sweep.lowest_joint.Goals as goal

pub joint_at-requires : goal.joint_at-requires
joint_at-requires c = (c.requires, c.net_of-v.ensures.0)

pub returns : goal.returns
returns c t h small N j =
    let s = c.args.self.now in
    let last = s.plan.last.now in
    let low = s.strands.low.now in
    let high = s.strands.high.now in
    let v = c.lowest_net in
    let same = c.net_of-v.ensures.1 (small v.result v.ensures) in
    c.joint_at.ensures t h
    ∙ ap (λ (u : ℕ). joint_by (get_or last u 0) (get_or low u 0) (second u (on t s.strands)) (get_or high u 0) c.args.c u) same
    ∙ j v.result v.ensures
