use native.Mathlib.Omega.{arith}
use mathlib.Core.Path.{refl}
use Rattle.record.proofs.Put.{put_none}
use Rattle.listing.specs.Text.{lines}
use Rattle.listing.proofs.Lines.{lines_more, line_room}
use Rattle.listing.proofs.put_lines.Goals as goal

pub loop-c-init : goal.loop-c-init
unfolding lines
loop-c-init c = put_none _ (omega (arith, c.requires.room.room))

pub put_line-requires-clause-room : goal.put_line-requires-clause-room
put_line-requires-clause-room c = line_room _ _ _ _ _ refl (omega arith) _ c.loop-c-test.true c.loop-c.invariant c.requires.room

pub loop-c-preserved : goal.loop-c-preserved
loop-c-preserved c = lines_more _ _ _ _ _ refl (omega arith) c.loop-c.invariant c.put_line.ensures
