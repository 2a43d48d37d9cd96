-- `gaxwethi_sweep_place` meets its contract: the number of what `stepwise::place` answers.
use Prim.Native.Nat.{ℕ}
use mathlib.Core.Path.{sym, subst}
use Rattle.stepwise.specs.Sweep.{state_of, PlacesLate}
use Rattle.export.proofs.sweeps.gaxwethi_sweep_place.Goals as goal

pub returns-clause-channel : goal.returns-clause-channel
returns-clause-channel c = λ top bottom strands free low high many extended t n s.
    let a = c.args in
    subst (λ (k : ℕ). PlacesLate top bottom t n a.net a.column1 a.side1 a.column2 a.side2 k
    (state_of a.columns a.tracks a.drawn c.place.new.upper c.place.new.lower c.place.new.first c.place.new.last strands free low high many extended))
    (sym c.number_of.ensures) (c.place.ensures.channel top bottom strands free low high many extended t n s)
