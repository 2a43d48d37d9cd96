-- `report::lengths::tally_four` meets its contract: four entries more, each counted in its table.
use Prim.Native.Nat.{◌+◌}
use lib.ListN.{get_or}
use Rattle.report.proofs.Tallies.{tally_room, four_counted}
use Rattle.grid.proofs.Scanning.{none_over}
use native.Mathlib.Omega.{arith}
use Rattle.report.proofs.lengths.tally_four.Goals as goal

pub tally-requires : goal.tally-requires
tally-requires c =
    let a = c.args in
    rw c.entry.ensures (tally_room a.a.now a.b.now a.c.now a.d.now a.i (get_or a.layout.now a.i 0) c.requires.2.tables (omega (arith, c.requires.1))
    (none_over a.layout.now a.i c.requires.0)).0

pub tally-requires-2 : goal.tally-requires-2
tally-requires-2 c =
    let a = c.args in
    rw c.entry-2.ensures (tally_room a.a.now a.b.now a.c.now a.d.now a.i (get_or a.layout.now (a.i + 1) 0) c.requires.2.tables (omega (arith, c.requires.1))
    (none_over a.layout.now (a.i + 1) c.requires.0)).1

pub tally-requires-3 : goal.tally-requires-3
tally-requires-3 c =
    let a = c.args in
    rw c.entry-3.ensures (tally_room a.a.now a.b.now a.c.now a.d.now a.i (get_or a.layout.now (a.i + 2) 0) c.requires.2.tables (omega (arith, c.requires.1))
    (none_over a.layout.now (a.i + 2) c.requires.0)).2

pub tally-requires-4 : goal.tally-requires-4
tally-requires-4 c =
    let a = c.args in
    rw c.entry-4.ensures (tally_room a.a.now a.b.now a.c.now a.d.now a.i (get_or a.layout.now (a.i + 3) 0) c.requires.2.tables (omega (arith, c.requires.1))
    (none_over a.layout.now (a.i + 3) c.requires.0)).3

pub returns : goal.returns
returns c =
    let a = c.args in
    rw (
      c.tally.ensures,
      c.entry.ensures,
      c.tally-2.ensures,
      c.entry-2.ensures,
      c.tally-3.ensures,
      c.entry-3.ensures,
      c.tally-4.ensures,
      c.entry-4.ensures,
    ) (four_counted a.layout.now a.i a.a.now a.b.now a.c.now a.d.now c.requires.0 c.requires.2)
