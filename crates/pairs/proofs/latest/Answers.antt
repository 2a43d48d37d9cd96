-- `latest` meets its contract, member by member.
use mathlib.Core.Path.{ap, ◌∙◌}
use lib.ListN.{get_or}
use Rattle.sets.specs.declared.MembersAbove.{MembersAbove}
use Rattle.pairs.proofs.Laws.{latest_none, latest_more, latest_end}
use Rattle.pairs.proofs.latest.Goals as goal

pub loop-v-init : goal.loop-v-init
loop-v-init c =
    let start = c.into_iter-v-iterator in
    record {
      may = tt;
      finite = tt;
      same = ap (λ (m : MembersAbove). m.set.now) start.ensures.into_iter_gives;
      so_far = rw (start.ensures.into_iter_gives) (latest_none (λ u. get_or c.args.last.now u 0) c.args.lone.now);
    }

pub loop-v-preserved : goal.loop-v-preserved
loop-v-preserved c =
    let l = c.loop-v in
    let step = c.in-Some.ensures.steps in
    record {
      may = tt;
      finite = tt;
      same = step.0 ∙ l.invariant.same;
      so_far = rw step.1.0 (latest_more (λ u. get_or c.args.last.now u 0) c.args.lone.now l.v-iterator.last c.in-Some.v l.best c.later_of-best.result (rw l.invariant.same at step.1.2) step.1.1
          l.invariant.so_far c.later_of-best.ensures);
    }

pub returns : goal.returns
returns c =
    let l = c.loop-v in
    latest_end (λ u. get_or c.args.last.now u 0) c.args.lone.now l.v-iterator.last l.best l.v-iterator.inside (rw l.invariant.same at c.in-None.ensures.steps.1) l.invariant.so_far
