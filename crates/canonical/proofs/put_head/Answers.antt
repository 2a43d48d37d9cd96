use Rattle.record.specs.Record.{words}
use Rattle.record.proofs.Put.{put_then, room_before, room_behind}
use Rattle.canonical.proofs.put_head.Goals as goal

pub put_word-requires : goal.put_word-requires
unfolding words
put_word-requires c = room_before _ c.requires.room

pub put_word-requires-2 : goal.put_word-requires-2
unfolding words
put_word-requires-2 c = room_before _ (room_behind c.put_word.ensures c.requires.room)

pub put_word-requires-3 : goal.put_word-requires-3
unfolding words
put_word-requires-3 c = room_behind c.put_word-2.ensures (room_behind c.put_word.ensures c.requires.room)

pub returns : goal.returns
unfolding words
returns c = put_then c.put_word.ensures (put_then c.put_word-2.ensures c.put_word-3.ensures)
