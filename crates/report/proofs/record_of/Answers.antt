-- `report::record_of` meets its contract: a net's figures stand at its number.
use mathlib.Core.Path.{refl}
use Rattle.report.proofs.record_of.Goals as goal

pub returns : goal.returns
returns c = rw (c.from.ensures, c.from-2.ensures, c.from-3.ensures) refl
