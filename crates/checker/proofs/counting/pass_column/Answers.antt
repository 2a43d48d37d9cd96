-- `checker::counting::pass_column` meets its contract: before point `j` its state holds.
use mathlib.Core.Path.{refl}
use native.Mathlib.Omega.{arith}
use Rattle.checker.proofs.counting.Counts.{per_net_mono}
use Rattle.checker.proofs.counting.Positions.{column_at, column_is}
use Rattle.checker.proofs.counting.Crossing.{crossings_state}
use Rattle.checker.proofs.counting.Pass.{small_base, begin_state, end_state}
use Rattle.checker.proofs.ends.Kept.{kept_crossings, kept_column}
use Rattle.checker.proofs.counting.pass_column.Goals as goal

pub overflow_cast-vl : goal.overflow_cast-vl
overflow_cast-vl c = omega (arith, small_base _ _ _ _ (column_at c.args.column))

pub begin-requires : goal.begin-requires
begin-requires c = record {
  net_bound = c.args.column.within.nets _;
  per_net = per_net_mono _ _ _ c.requires.counted.fits (omega (arith, small_base _ _ _ _ (column_at c.args.column)));
}

pub loop-j-init : goal.loop-j-init
loop-j-init c =
    let s = c.requires in
    let b = c.begin.ensures in
    record {
      within = omega arith;
      state = rw b.joined (begin_state _ _ _ _ _ _ _ _ _ (column_at c.args.column) s.labs s.counted refl b.counted);
      kept = s.kept;
    }

pub keep-kept-requires : goal.keep-kept-requires
keep-kept-requires c =
    let p = c.point-point.ensures in
    rw (p.column, p.number) (kept_crossings (column_is c.args.column) c.next_meeting-j.ensures c.loop-j.invariant.kept)

pub meet-vl-requires : goal.meet-vl-requires
meet-vl-requires c =
    let p = c.point-point.ensures in
    rw (p.column, p.number) (crossings_state _ _ _ _ _ (column_at c.args.column) _ _ _ _ _ c.next_meeting-j.ensures c.loop-j.invariant.state)

pub loop-j-smaller-then-j-column : goal.loop-j-smaller-then-j-column
loop-j-smaller-then-j-column c = omega (arith, c.if-j-column.true, c.next_meeting-j.ensures.from)

pub loop-j-preserved-then-j-column : goal.loop-j-preserved-then-j-column
loop-j-preserved-then-j-column c =
    let p = c.point-point.ensures in
    record {
      within = omega (arith, c.if-j-column.true);
      state = rw (p.column, p.number) at c.meet-vl.ensures;
      kept = rw (p.column, p.number) at c.keep-kept.ensures;
    }

pub loop-j-preserved : goal.loop-j-preserved
loop-j-preserved c =
    let x = c.next_meeting-j.ensures in
    let i = c.loop-j.invariant in
    record {
      within = x.to;
      state = crossings_state _ _ _ _ _ (column_at c.args.column) _ _ _ _ _ x i.state;
      kept = kept_crossings (column_is c.args.column) x i.kept;
    }

pub returns : goal.returns
returns c =
    let i = c.loop-j.invariant in
    let e = end_state _ _ _ _ _ _ _ _ _ i.state (omega (arith, i.within, c.loop-j-test.false)) in
    record {
      kept_after = kept_column (omega (arith, i.within, c.loop-j-test.false)) i.kept;
      labs_after = e.0;
      counted_after = e.1;
    }
