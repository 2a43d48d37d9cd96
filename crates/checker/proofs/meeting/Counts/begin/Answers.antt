-- `checker::meeting::Counts::begin` meets its contract: one piece more is begun where the labels are the same.
use native.Mathlib.Omega.{arith}
use Rattle.checker.proofs.counting.Arrays.{begun_one, begun_none}
use Rattle.checker.proofs.meeting.Counts.begin.Goals as goal

pub overflow_add-self : goal.overflow_add-self
overflow_add-self c =
    let s = c.requires in
    omega (arith, s.per_net.most c.from.result (omega (arith, c.from.ensures, s.net_bound)))

pub returns-then-a-b-clause-counted : goal.returns-then-a-b-clause-counted
returns-then-a-b-clause-counted c =
    let s = c.requires in
    rw c.from.ensures (begun_one _ _ _ _ c.if-a-b.true (omega (arith, s.net_bound, s.per_net.long)))

pub returns-else-a-b-clause-counted : goal.returns-else-a-b-clause-counted
returns-else-a-b-clause-counted c = begun_none _ _ _ _ (λ n. c.if-a-b.false)
