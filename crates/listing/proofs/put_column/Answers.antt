use mathlib.Core.Path.{sym}
use Rattle.record.proofs.Put.{put_then, put_as, room_as, room_before, room_behind}
use Rattle.listing.proofs.Front.{column_parts}
use Rattle.listing.proofs.put_column.Goals as goal

pub put_cells-requires : goal.put_cells-requires
put_cells-requires c =
    room_before _ (room_as c.requires.room (column_parts _ _ _ _ c.requires.length c.split_at.ensures.front c.split_at.ensures.back))

pub put_bytes-requires : goal.put_bytes-requires
put_bytes-requires c =
    room_before _ (room_behind c.put_cells.ensures
    (room_as c.requires.room (column_parts _ _ _ _ c.requires.length c.split_at.ensures.front c.split_at.ensures.back)))

pub put_cells-requires-2 : goal.put_cells-requires-2
put_cells-requires-2 c =
    room_behind c.put_bytes.ensures (room_behind c.put_cells.ensures
    (room_as c.requires.room (column_parts _ _ _ _ c.requires.length c.split_at.ensures.front c.split_at.ensures.back)))

pub returns : goal.returns
returns c =
    put_as (put_then c.put_cells.ensures (put_then c.put_bytes.ensures c.put_cells-2.ensures)) _
    (sym (column_parts _ _ _ _ c.requires.length c.split_at.ensures.front c.split_at.ensures.back))
