use lib.ListN.{length}
use Rattle.canonical.specs.Renaming.{nets_to}
use Rattle.canonical.specs.Working.{Ranked}
use Rattle.canonical.proofs.number_nets.Given as goal

abbrev pub invariant-loop-above : goal.invariant-loop-above
invariant-loop-above l = Ranked (nets_to l.top l.bottom (length l.yielded)) l.given l.numbers
