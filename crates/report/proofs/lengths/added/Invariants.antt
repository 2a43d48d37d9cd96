use Rattle.report.specs.Working.{four}
use Rattle.report.proofs.Tallies.{Summed}
use Rattle.report.proofs.lengths.added.Given as goal

abbrev pub invariant-loop-v : goal.invariant-loop-v
invariant-loop-v l = Summed (four l.a l.b l.c l.d) l.v l.sum-items
