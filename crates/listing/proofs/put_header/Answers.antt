use Rattle.record.proofs.Put.{put_then, room_before, room_behind}
use Rattle.listing.specs.Text.{header}
use Rattle.listing.proofs.put_header.Goals as goal

pub put_figure-requires : goal.put_figure-requires
unfolding header
put_figure-requires c = room_before _ c.requires

pub put_figure-requires-2 : goal.put_figure-requires-2
unfolding header
put_figure-requires-2 c = room_before _ (room_behind c.put_figure.ensures c.requires)

pub put_figure-requires-3 : goal.put_figure-requires-3
unfolding header
put_figure-requires-3 c = room_before _ (room_behind c.put_figure-2.ensures (room_behind c.put_figure.ensures c.requires))

pub put_bytes-requires : goal.put_bytes-requires
unfolding header
put_bytes-requires c = room_behind c.put_figure-3.ensures (room_behind c.put_figure-2.ensures (room_behind c.put_figure.ensures c.requires))

pub returns : goal.returns
unfolding header
returns c = put_then c.put_figure.ensures (put_then c.put_figure-2.ensures (put_then c.put_figure-3.ensures c.put_bytes.ensures))
