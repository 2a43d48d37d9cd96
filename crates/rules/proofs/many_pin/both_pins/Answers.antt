-- `both_pins` meets its contract.
use Rattle.sweep.specs.ManyPin
use borrow.Author.Tests.{eq-eqb, ne_eqb, lt-ltb, le-ltb}
use Rattle.rules.proofs.many_pin.both_pins.Goals as goal

pub returns-then-a-gt0 : goal.returns-then-a-gt0
unfolding ManyPin.both_pins
returns-then-a-gt0 c t e = simp (lt-ltb _ _ c.if-a-gt0.true) (cc (c.go_full.ensures t e))

pub returns-then-n-eq0 : goal.returns-then-n-eq0
unfolding ManyPin.both_pins
returns-then-n-eq0 c t e = simp (le-ltb _ _ c.if-a-gt0.false, c.if-later.true, eq-eqb _ _ c.if-n-eq0.true) (c.go_full-then-n-eq0.ensures t e)

pub returns-then-later : goal.returns-then-later
unfolding ManyPin.both_pins
returns-then-later c t e = simp (le-ltb _ _ c.if-a-gt0.false, c.if-later.true, ne_eqb _ _ c.if-n-eq0.false) c.join_net.ensures

pub returns : goal.returns
unfolding ManyPin.both_pins
returns c t e = simp (le-ltb _ _ c.if-a-gt0.false, c.if-later.false) (c.go_full-2.ensures t e)
