use lib.ListN.{take}
use Rattle.record.specs.Record.{words}
use Rattle.record.specs.Writing.{Puts}
use Rattle.canonical.specs.Working.{by_table}
use Rattle.canonical.proofs.put_row.Given as goal

abbrev pub invariant-loop-net : goal.invariant-loop-net
invariant-loop-net l = Puts l.initial.out (words (by_table l.numbers (take l.net-index l.row))) l.out
