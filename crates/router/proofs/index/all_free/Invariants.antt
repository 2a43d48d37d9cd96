use Rattle.router.specs.Working.{Frees, blank}
use Rattle.router.proofs.index.all_free.Given as goal

abbrev pub invariant-loop-i : goal.invariant-loop-i
invariant-loop-i l = Frees l.i blank l.s
