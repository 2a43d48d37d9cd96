use mathlib.Core.Path.{◌≡◌}
use mathlib.Core.List.{◌++◌}
use lib.ListN.{drop}
use Rattle.report.specs.Report.{up_to}
use Rattle.report.specs.Working.{in_tables}
use Rattle.report.proofs.put_records.Given as goal

abbrev pub invariant-loop-k : goal.invariant-loop-k
invariant-loop-k l = l.records ≡ up_to (in_tables l.facts.first l.facts.last l.facts.pins l.lengths) l.k ++ drop l.k l.initial.records
