use native.Mathlib.Omega.{arith}
use mathlib.Core.Path.{◌∙◌, ap}
use lib.ListN.{length}
use Rattle.record.specs.Record.{laid}
use Rattle.record.proofs.Put.{put_then, put_laid, room_new}
use Rattle.listing.specs.Text.{refusal}
use Rattle.listing.proofs.Digits.{five_digits}
use Rattle.listing.proofs.put_refusal_line.Goals as goal

pub put_figure-requires : goal.put_figure-requires
put_figure-requires c =
    room_new c.new-out.ensures.written c.new-out.ensures.bytes (omega (arith, five_digits c.from.result (omega (arith, c.from.ensures))))

pub put_byte-requires : goal.put_byte-requires
put_byte-requires c =
    record { room = omega (arith, c.put_figure.ensures.ends, c.put_figure.ensures.keeps, c.new-out.ensures.written, ap length c.new-out.ensures.bytes, five_digits c.from.result (omega (arith, c.from.ensures))) }

pub returns-clause-length : goal.returns-clause-length
unfolding refusal
returns-clause-length c =
    c.written.ensures ∙ (put_laid c.new-out.ensures.written (put_then (rw (c.from.ensures) at c.put_figure.ensures) c.put_byte.ensures)).0

pub returns-clause-text : goal.returns-clause-text
unfolding refusal
returns-clause-text c =
    (put_laid c.new-out.ensures.written (put_then (rw (c.from.ensures) at c.put_figure.ensures) c.put_byte.ensures)).1
    ∙ ap (laid (refusal c.args.number)) c.new-out.ensures.bytes
