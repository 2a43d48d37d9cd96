-- `second_of` meets its contract.
use Rattle.router.proofs.Laws.Scans
use lib.ListN.{get_or}
use native.Mathlib.Omega.{arith}
use mathlib.Core.Path.{◌≡◌}
use Rattle.router.proofs.lent.Strands.second_of.Goals as goal

pub loop-y-init : goal.loop-y-init
loop-y-init c i p q = absurd (omega (arith, c.from-y.ensures))

pub returns-then-nets-y : goal.returns-then-nets-y
returns-then-nets-y c t h e ea eb =
    let l = c.loop-y in
    let d = c.args.self.now.tracks.nets.now in
    let most = Scans.high_most t d h e c.args.v in
    Scans.second_scanned t d h e c.args.v c.args.a l.y ea (omega (arith, c.from-y.ensures)) (omega (arith, most, eb, c.from-y-end.ensures)) c.if-nets-y.true l.invariant

pub loop-y-preserved : goal.loop-y-preserved
loop-y-preserved c =
    let l = c.loop-y in
    Scans.none_more c.args.a l.y (λ i. get_or c.args.self.now.tracks.nets.now i 0 ≡ c.args.v → ⊥) l.invariant c.if-nets-y.false

pub returns : goal.returns
returns c t h e ea eb =
    let l = c.loop-y in
    let d = c.args.self.now.tracks.nets.now in
    let most = Scans.high_most t d h e c.args.v in
    Scans.second_absent t d h e c.args.v c.args.a c.args.b l.y ea eb (omega (arith, most, eb, c.from-y-end.ensures)) l.invariant
