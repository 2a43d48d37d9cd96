-- `checker::counting::next_meeting` meets its contract: up to point `k` nets only cross.
use mathlib.Core.Path.{refl, sym, ◌∙◌}
use native.Mathlib.Omega.{arith}
use Rattle.checker.proofs.counting.Positions.{column_at}
use Rattle.checker.proofs.counting.Crossing.{left_within, crossings_none, crossings_more, crossings_all, lower_next}
use Rattle.checker.proofs.counting.next_meeting.Goals as goal

pub returns-then-layout-q : goal.returns-then-layout-q
returns-then-layout-q c = crossings_none _ _ _ _ _ c.requires

pub loop-k-init : goal.loop-k-init
loop-k-init c = (refl, crossings_none _ _ _ _ _ c.requires)

pub bounds-layout-q : goal.bounds-layout-q
bounds-layout-q c = omega (arith, left_within _ _ _ _ (column_at c.args.column) c.if-layout-q.false, c.loop-k-test.true)

pub returns-then-layout-b : goal.returns-then-layout-b
returns-then-layout-b c = c.loop-k.invariant.1

pub returns-then-ln-vd : goal.returns-then-ln-vd
returns-then-ln-vd c = c.loop-k.invariant.1

pub returns-then-layout-b-2 : goal.returns-then-layout-b-2
returns-then-layout-b-2 c = c.loop-k.invariant.1

pub loop-k-preserved : goal.loop-k-preserved
loop-k-preserved c =
    let a = c.args.column in
    let row = c.loop-k-test.true in
    let up = c.if-layout-b.false in (
      lower_next a.layout.now a.b c.loop-k.k _ up,
      crossings_more _ _ _ _ _ _ c.loop-k.invariant.1 row
          (record {
            upright = c.loop-k.invariant.0 ∙ sym up;
            level = sym c.if-layout-b-2.false;
            apart = λ e. c.if-ln-vd.false (sym e ∙ c.loop-k.invariant.0);
          }),
    )

pub returns : goal.returns
returns c = crossings_all _ _ _ _ _ _ c.loop-k.invariant.1 c.loop-k-test.false
