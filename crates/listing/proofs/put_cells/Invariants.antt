use Rattle.record.specs.Writing.{Puts}
use Rattle.listing.specs.Text.{cells}
use Rattle.listing.proofs.put_cells.Given as goal

abbrev pub invariant-loop-entry : goal.invariant-loop-entry
invariant-loop-entry l = Puts l.initial.text (cells l.entries 0 l.entry-index) l.text
