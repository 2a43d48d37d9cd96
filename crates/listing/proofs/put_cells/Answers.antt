use native.Mathlib.Omega.{arith}
use Rattle.record.proofs.Put.{put_none, room_before, room_behind}
use Rattle.listing.specs.Text.{cells}
use Rattle.listing.proofs.Lines.{cells_more, cell_room}
use Rattle.listing.proofs.put_cells.Goals as goal

pub loop-entry-init : goal.loop-entry-init
unfolding cells
loop-entry-init c = put_none _ (omega (arith, c.requires.room))

pub put_byte-requires : goal.put_byte-requires
put_byte-requires c = room_before _ (cell_room _ _ _ c.loop-entry-test.true c.loop-entry.invariant c.requires)

pub put_number-requires : goal.put_number-requires
put_number-requires c =
    rw c.from.ensures (room_behind c.put_byte.ensures (cell_room _ _ _ c.loop-entry-test.true c.loop-entry.invariant c.requires))

pub loop-entry-preserved : goal.loop-entry-preserved
loop-entry-preserved c = cells_more _ _ c.loop-entry.invariant c.put_byte.ensures (rw c.from.ensures at c.put_number.ensures)
