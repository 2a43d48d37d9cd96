use mathlib.Core.Path.{◌∙◌, ap}
use Rattle.std.proofs.Common.{rules}
use Rattle.record.specs.Record.{laid}
use Rattle.record.proofs.Put.{put_then, put_laid, room_new, room_before, room_behind}
use Rattle.listing.specs.Text.{drawing_text}
use Rattle.listing.proofs.put_listing.Goals as goal

pub put_header-requires : goal.put_header-requires
unfolding drawing_text
put_header-requires c = room_before _ (room_new c.new-out.ensures.written c.new-out.ensures.bytes c.requires.room)

pub put_lines-requires-clause-room : goal.put_lines-requires-clause-room
unfolding drawing_text
put_lines-requires-clause-room c =
    room_behind c.put_header.ensures (room_new c.new-out.ensures.written c.new-out.ensures.bytes c.requires.room)

pub returns-clause-length : goal.returns-clause-length
unfolding drawing_text
returns-clause-length c = c.written.ensures ∙ (put_laid c.new-out.ensures.written (put_then c.put_header.ensures c.put_lines.ensures)).0

pub returns-clause-text : goal.returns-clause-text
unfolding drawing_text
returns-clause-text c =
    let e = (put_laid c.new-out.ensures.written (put_then c.put_header.ensures c.put_lines.ensures)).1 ∙ ap (laid _) c.new-out.ensures.bytes in
    let f = c.put_header.ensures.same in
    let g = c.put_lines.ensures.same in
    search rules
