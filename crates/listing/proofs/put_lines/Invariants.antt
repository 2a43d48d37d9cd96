use Rattle.record.specs.Writing.{Puts}
use Rattle.listing.specs.Text.{lines}
use Rattle.listing.proofs.put_lines.Given as goal

abbrev pub invariant-loop-c : goal.invariant-loop-c
invariant-loop-c l = Puts l.initial.text (lines l.layout l.t l.c) l.text
