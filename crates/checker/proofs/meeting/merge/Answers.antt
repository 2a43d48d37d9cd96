-- `checker::meeting::merge` meets its contract: the labels passed are changed, the others not yet.
use lib.Seq.{set-get_or}
use native.Mathlib.Omega.{arith}
use Rattle.checker.proofs.counting.Arrays.{merge_none, merge_hit, merge_miss, merge_same, merge_all}
use Rattle.checker.proofs.meeting.merge.Goals as goal
use Rattle.checker.proofs.meeting.merge.Goals.{then-label-old, else-label-old}

pub returns-then-old-new : goal.returns-then-old-new
returns-then-old-new c = merge_same _ _ _ _ c.if-old-new.true

pub loop-label-init : goal.loop-label-init
loop-label-init c = merge_none _ _ _

pub loop-label-preserved : goal.loop-label-preserved
loop-label-preserved c =
    let l = c.loop-label in
    elim c.if-label-old.branch [
      | then-label-old w ↦
          rw w.label-items-is (merge_hit _ _ _ _ _ l.invariant (omega (arith, l.auto.label-items, c.loop-label-test.true)) w.if-label-old.true)
      | else-label-old w ↦ rw (w.label-items-is, set-get_or l.label-items l.label-index 0) (merge_miss _ _ _ _ _ l.invariant w.if-label-old.false)
    ]

pub returns : goal.returns
returns c =
    let s = c.requires in
    merge_all _ _ _ _ _ _ (omega (arith, s.t_bound, s.lab_len)) c.loop-label.invariant c.loop-label-test.false
