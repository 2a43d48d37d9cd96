use Rattle.record.proofs.Put.{put_then, put_as, room_before, room_behind}
use Rattle.canonical.proofs.Answers.{channel_bytes, channel_room}
use Rattle.canonical.proofs.put_channel.Goals as goal

pub put_head-requires-clause-room : goal.put_head-requires-clause-room
put_head-requires-clause-room c = room_before _ (channel_room _ _ _ c.requires.rows c.number_nets.ensures c.requires.room)

pub put_row-requires-clause-room : goal.put_row-requires-clause-room
put_row-requires-clause-room c =
    room_before _ (room_behind c.put_head.ensures (channel_room _ _ _ c.requires.rows c.number_nets.ensures c.requires.room))

pub put_row-requires-2-clause-room : goal.put_row-requires-2-clause-room
put_row-requires-2-clause-room c =
    room_behind c.put_row.ensures (room_behind c.put_head.ensures (channel_room _ _ _ c.requires.rows c.number_nets.ensures c.requires.room))

pub returns : goal.returns
returns c =
    put_as (put_then c.put_head.ensures (put_then c.put_row.ensures c.put_row-2.ensures)) _
    (channel_bytes _ _ _ c.requires.rows c.number_nets.ensures)
