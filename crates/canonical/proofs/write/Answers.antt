-- `canonical::write` meets its contract: refused rows by their number, a slice that is too short, and the record.
use native.Mathlib.Omega.{arith}
use Rattle.std.proofs.Common.{rules}
use mathlib.Core.Path.{sym, ap, ◌∙◌}
use lib.ListN.{length}
use Rattle.grid.proofs.Numbers.{passed_on}
use Rattle.grid.proofs.Rows.{rows_short}
use Rattle.canonical.proofs.Answers.{accepted_rows, refused_rows, refused_slice, record_put, canonical_room}
use Rattle.canonical.proofs.write.Goals as goal

pub returns-in_err-rows_refusal : goal.returns-in_err-rows_refusal
returns-in_err-rows_refusal c =
    let a = c.args in
    let r = c.in_err-rows_refusal.field-0.0 in
    rw (passed_on _ r c.from_residual.ensures.1) (refused_rows a.top.now a.bottom.now a.bytes.now r c.in_err-rows_refusal.ensures)

pub overflow_mul-top : goal.overflow_mul-top
overflow_mul-top c = omega (arith, rows_short _ _ 256 (sym c.in_ok-rows_refusal.ensures))

pub overflow_add-top : goal.overflow_add-top
overflow_add-top c = omega (arith, rows_short _ _ 256 (sym c.in_ok-rows_refusal.ensures))

pub returns-then-bytes-top : goal.returns-then-bytes-top
returns-then-bytes-top c = refused_slice _ _ _ (sym c.in_ok-rows_refusal.ensures) c.if-bytes-top.true

pub put_channel-requires : goal.put_channel-requires
put_channel-requires c =
    let r = accepted_rows _ _ (sym c.in_ok-rows_refusal.ensures) in
    let n = c.new-out.ensures in
    record { rows = r; room = canonical_room _ _ r n.written (omega (arith, c.if-bytes-top.false, ap length n.bytes)) }

pub returns : goal.returns
returns c =
    let n = c.new-out.ensures in
    let p = record_put _ _ _ (sym c.in_ok-rows_refusal.ensures) n.written n.bytes c.if-bytes-top.false c.put_channel.ensures in
    record {
      answer = cc (p.answer, c.written.ensures);
      number = p.number;
      length = c.written.ensures ∙ p.length;
      bytes = let e = p.bytes in let f = c.put_channel.ensures.same in search rules;
    }
