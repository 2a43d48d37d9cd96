-- `grid::families::has_first_two` meets its contract: the tests of the code are those of the definition.
use Prim.Native.Nat.{ℕ}
use mathlib.Core.Path.{ap}
use mathlib.Core.Bool.{not, ◌&&◌}
use lib.Dec.{eqb}
use lib.ListN.{get_or}
use Rattle.grid.proofs.families.has_first_two.Goals as goal

pub returns : goal.returns
returns c =
    let a = c.args in
    ap (λ (v : ℕ). not (eqb a.p 0) && (eqb a.p a.q && (eqb (get_or a.pins.now v 0) 3 && eqb (get_or a.first.now v 0) a.c))) c.from-v.ensures
