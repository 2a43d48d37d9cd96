-- `checker::entries::known_numbers` meets its contract: the marks below `v` are right.
use Rattle.checker.proofs.entries.Nets.{marks_start, marks_more, marks_all}
use Rattle.checker.proofs.entries.known_numbers.Goals as goal

pub loop-v-init : goal.loop-v-init
loop-v-init c = marks_start _

pub loop-v-preserved : goal.loop-v-preserved
loop-v-preserved c = marks_more _ _ _ c.loop-v.invariant c.loop-v.auto.v c.loop-v-test.true

pub returns : goal.returns
returns c = marks_all _ _ _ c.loop-v.invariant c.loop-v-test.false
