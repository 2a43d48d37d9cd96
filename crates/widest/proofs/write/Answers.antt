-- `write` meets its contract: rows of two lengths, rows that are too long, and the channel.
use mathlib.Core.Path.{refl}
use lib.ListN.{length}
use Rattle.widest.proofs.Answers.{refused_4, refused_5, refused_none, top_written, bottom_written, promise_met}
use Rattle.widest.proofs.write.Goals as goal

pub returns-then-n-bottom : goal.returns-then-n-bottom
returns-then-n-bottom c =
    let a = c.args in
    promise_met a.top.now a.bottom.now 4 (refused_4 (length a.top.now) (length a.bottom.now) c.if-n-bottom.true) _ _ _ refl refl refl

pub returns-then-n-gt256 : goal.returns-then-n-gt256
returns-then-n-gt256 c =
    let a = c.args in
    promise_met a.top.now a.bottom.now 5 (refused_5 (length a.top.now) (length a.bottom.now) c.if-n-bottom.false c.if-n-gt256.true) _ _ _ refl refl refl

pub returns : goal.returns
returns c =
    let a = c.args in
    let n = length a.top.now in
    let same = c.if-n-bottom.false in
    promise_met a.top.now a.bottom.now 0 (refused_none n (length a.bottom.now) same c.if-n-gt256.false) _ _ _ refl
    (top_written n _ c.write_halves.ensures)
    (bottom_written n (length a.bottom.now) _ same c.write_halves-2.ensures)
