-- `checker::meeting::Counts::join` meets its contract: one join more where the labels differ.
use native.Mathlib.Omega.{arith}
use Rattle.checker.proofs.counting.Arrays.{joined_none, joined_one}
use Rattle.checker.proofs.meeting.Counts.join.Goals as goal

pub overflow_add-self : goal.overflow_add-self
overflow_add-self c =
    let s = c.requires in
    omega (arith, s.per_net.most c.from.result (omega (arith, c.from.ensures, s.net_bound)))

pub returns-then-a-b-clause-counted : goal.returns-then-a-b-clause-counted
returns-then-a-b-clause-counted c =
    let s = c.requires in
    rw c.from.ensures (joined_one _ _ _ _ c.if-a-b.true (omega (arith, s.net_bound, s.per_net.long)))

pub returns-else-a-b-clause-counted : goal.returns-else-a-b-clause-counted
returns-else-a-b-clause-counted c = joined_none _ _ _ _ c.if-a-b.false
