-- `grid::families::first_two` meets its contract: what is found is found in the columns passed.
use mathlib.Core.Path.{refl, sym, ap, ◌∙◌}
use lib.ListN.{length}
use native.Mathlib.Omega.{arith}
use Rattle.grid.specs.Channel.{first_two_to, pins as pins_of}
use Rattle.grid.specs.Nets.{first_column}
use Rattle.grid.proofs.Scanning.{passed}
use Rattle.grid.proofs.Tables.{table-length}
use Rattle.grid.proofs.FamilyTests.{first_two_none, first_two_more}
use Rattle.grid.proofs.families.first_two.Goals as goal

pub loop-i-init : goal.loop-i-init
loop-i-init c = sym (first_two_none c.args.top.now c.args.bottom.now)

pub has_first_two-found-requires : goal.has_first_two-found-requires
has_first_two-found-requires c =
    let a = c.args in
    let e = ap length c.requires.1 ∙ table-length (first_column a.top.now a.bottom.now) in
    let f = ap length c.requires.2 ∙ table-length (pins_of a.top.now a.bottom.now) in
    let w = passed a.top.now a.bottom.now c.loop-i.i _ _ c.requires.0 (omega arith) refl refl in
    (omega (arith, e, w.net), omega (arith, f, w.net))

pub loop-i-preserved : goal.loop-i-preserved
loop-i-preserved c =
    let a = c.args in
    let w = passed a.top.now a.bottom.now c.loop-i.i _ _ c.requires.0 (omega arith) refl refl in
    first_two_more a.top.now a.bottom.now a.first.now a.pins.now c.requires.0 c.requires.1 c.requires.2 _ _ _ w _ _ _ refl c.loop-i.invariant c.has_first_two-found.ensures

pub returns : goal.returns
returns c = c.loop-i.invariant ∙ ap (first_two_to c.args.top.now c.args.bottom.now) (omega arith)
