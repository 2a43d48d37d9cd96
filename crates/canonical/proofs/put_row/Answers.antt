use native.Mathlib.Omega.{arith}
use lib.ListN.{get_or}
use Rattle.grid.proofs.Scanning.{none_over}
use Rattle.record.proofs.Put.{put_none, put_as}
use Rattle.canonical.proofs.PutRows.{words_to_none, row_room, row_more}
use Rattle.canonical.proofs.put_row.Goals as goal

pub loop-net-init : goal.loop-net-init
loop-net-init c = put_as (put_none _ (omega (arith, c.requires.room.room))) _ (words_to_none (λ v. get_or c.args.numbers.now v 0) c.args.row.now)

pub bounds-numbers-from : goal.bounds-numbers-from
bounds-numbers-from c = omega (arith, none_over _ c.loop-net.net-index c.requires.row)

pub put_word-requires : goal.put_word-requires
put_word-requires c =
    rw c.from.ensures (row_room (λ v. get_or c.args.numbers.now v 0) c.args.row.now _ c.loop-net-test.true c.requires.room c.loop-net.invariant)

pub loop-net-preserved : goal.loop-net-preserved
loop-net-preserved c =
    row_more (λ v. get_or c.args.numbers.now v 0) c.args.row.now _ c.loop-net-test.true c.loop-net.invariant (rw c.from.ensures at c.put_word.ensures)
