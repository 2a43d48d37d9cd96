use Rattle.record.proofs.Put.{put_then, room_before, room_behind}
use Rattle.listing.specs.Text.{line_at}
use Rattle.listing.proofs.put_line.Goals as goal

pub put_number-requires : goal.put_number-requires
unfolding line_at
put_number-requires c = room_before _ c.requires.room

pub put_byte-requires : goal.put_byte-requires
unfolding line_at
put_byte-requires c = room_before _ (room_behind c.put_number.ensures c.requires.room)

pub put_column-requires-clause-room : goal.put_column-requires-clause-room
unfolding line_at
put_column-requires-clause-room c = room_before _ (room_behind c.put_byte.ensures (room_behind c.put_number.ensures c.requires.room))

pub put_byte-requires-2 : goal.put_byte-requires-2
unfolding line_at
put_byte-requires-2 c = room_behind c.put_column.ensures (room_behind c.put_byte.ensures (room_behind c.put_number.ensures c.requires.room))

pub returns : goal.returns
unfolding line_at
returns c = put_then c.put_number.ensures (put_then c.put_byte.ensures (put_then c.put_column.ensures c.put_byte-2.ensures))
