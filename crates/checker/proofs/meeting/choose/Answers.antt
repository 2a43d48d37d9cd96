-- `checker::meeting::choose` meets its contract: each way out is a case of `chosen`.
use mathlib.Core.Path.{sym}
use Rattle.checker.proofs.counting.Arrays.{chosen_zero, chosen_hit, chosen_miss}
use Rattle.checker.proofs.meeting.choose.Goals as goal

pub returns-then-net-eq0 : goal.returns-then-net-eq0
returns-then-net-eq0 c = sym (chosen_zero _ _ _ _ c.if-net-eq0.true)

pub returns-then-net-n : goal.returns-then-net-n
returns-then-net-n c = chosen_hit _ _ _ _ c.if-net-eq0.false c.if-net-n.true

pub returns : goal.returns
returns c = chosen_miss _ _ _ _ c.if-net-eq0.false c.if-net-n.false
