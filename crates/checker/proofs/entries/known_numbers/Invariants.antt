use Rattle.checker.specs.Working.{KnownMarks}
use Rattle.checker.proofs.entries.known_numbers.Given as goal

abbrev pub invariant-loop-v : goal.invariant-loop-v
invariant-loop-v l = KnownMarks l.pins l.known l.v
