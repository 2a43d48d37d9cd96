use Rattle.checker.proofs.Least.{NoneBelow}
use Rattle.checker.specs.Working.{in_pieces}
use Rattle.checker.proofs.counting.find_in_pieces.Given as goal

abbrev pub invariant-loop-n : goal.invariant-loop-n
invariant-loop-n l = NoneBelow (in_pieces l.counts.begun l.counts.joined) l.n
