-- `report::lengths::counted` meets its contract: after i entries each number is counted as often as it stands among them.
use Rattle.report.proofs.Tallies.{none_counted, all_counted}
use native.Mathlib.Omega.{arith}
use Rattle.report.proofs.lengths.counted.Goals as goal

pub loop-i-init : goal.loop-i-init
loop-i-init c =
    (omega arith, none_counted c.args.layout.now _ _ _ _ c.none-a.ensures c.none-b.ensures c.none-c.ensures c.none-d.ensures)

pub tally_four-requires : goal.tally_four-requires
tally_four-requires c =
    let l = c.loop-i in
    (c.requires.layout_value, omega (arith, c.requires.layout_len_bound), l.invariant.1)

pub loop-i-preserved : goal.loop-i-preserved
loop-i-preserved c = (omega arith, c.tally_four.ensures)

pub added-requires : goal.added-requires
added-requires c =
    let h = c.loop-i.invariant.1.tables in
    record { sizes = h.sizes; most = λ v. omega (arith, h.most v, c.requires.layout_len_bound) }

pub returns : goal.returns
returns c =
    let l = c.loop-i in
    let r = c.added in
    all_counted _ l.i l.a l.b l.c l.d r.result l.invariant.1 (omega arith) r.ensures.0 r.ensures.1
