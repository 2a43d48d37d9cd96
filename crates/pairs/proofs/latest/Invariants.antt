use mathlib.Core.Path.{◌≡◌}
use lib.ListN.{get_or}
use Rattle.sets.specs.Member.{member}
use Rattle.sweep.specs.Pairs.{latest_to}
use Rattle.pairs.proofs.latest.Given as goal

abbrev pub invariant-loop-v : goal.invariant-loop-v
invariant-loop-v l = record {
  may : (goal.iterator-loop-v).can_next l.v-iterator;
  finite : (goal.iterator-loop-v).is_finite l.v-iterator;
  same : l.v-iterator.set.now ≡ l.lone;
  so_far : l.best ≡ latest_to (λ u. get_or l.last u 0) (member l.lone) l.v-iterator.last;
}
