use Rattle.checker.proofs.counting.Arrays.{Merging}
use Rattle.checker.proofs.meeting.merge.Given as goal

abbrev pub invariant-loop-label : goal.invariant-loop-label
invariant-loop-label l = Merging l.old l.new l.initial.label-items l.label-items l.label-index
