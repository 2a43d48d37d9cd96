-- The digits of the tenth part, then the last one. It ends, as the tenth part is less.
use native.Mathlib.Omega.{arith}
use Rattle.record.proofs.Put.{room_before, room_behind}
use Rattle.listing.proofs.Lines.{number_large, large_room}
use Rattle.listing.proofs.+put_large.Goals as goal
use Rattle.listing.proofs.+put_large.Goals.{then-n-lt1000, else-n-lt1000}

pub put_pair-requires : goal.put_pair-requires
put_pair-requires t c = record {
  n_at_least = omega (arith, c.requires.n_at_least);
  n_bound = omega (arith, c.if-n-lt1000.true);
  room = room_before _ (large_room _ (omega (arith, c.requires.n_at_least)) c.requires.room);
}

pub put_large-requires : goal.put_large-requires
put_large-requires t c = (
  omega arith,
  (omega (arith, c.if-n-lt1000.false), room_before _ (large_room _ (omega (arith, c.requires.n_at_least)) c.requires.room)),
)

pub put_byte-requires : goal.put_byte-requires
put_byte-requires t c =
    let r = large_room _ (omega (arith, c.requires.n_at_least)) c.requires.room in
    elim c.if-n-lt1000.branch [
      | then-n-lt1000 w ↦ rw w.text-is (room_behind w.put_pair.ensures r)
      | else-n-lt1000 w ↦ rw w.text-is (room_behind w.put_large.ensures r)
    ]

pub returns : goal.returns
returns t c =
    elim c.if-n-lt1000.branch [
      | then-n-lt1000 w ↦ number_large _ (omega (arith, c.requires.n_at_least)) w.put_pair.ensures (rw w.text-is at c.put_byte.ensures)
      | else-n-lt1000 w ↦ number_large _ (omega (arith, c.requires.n_at_least)) w.put_large.ensures (rw w.text-is at c.put_byte.ensures)
    ]
