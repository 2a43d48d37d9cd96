-- `both_start` meets its contract.
use Rattle.sweep.specs.TwoPin
use borrow.Author.Tests.{eq-eqb, ne_eqb}
use Rattle.router.proofs.choose.both_start.Goals as goal

pub returns-then-n-eq0 : goal.returns-then-n-eq0
unfolding TwoPin.join_or
returns-then-n-eq0 c t x h l f = rw (eq-eqb _ _ c.if-n-eq0.true) (cc (c.both_take_free.ensures, c.free_tracks.ensures t x h l f))

pub returns : goal.returns
unfolding TwoPin.join_or
returns c t x h l f = simp (ne_eqb _ _ c.if-n-eq0.false) c.join_net.ensures
