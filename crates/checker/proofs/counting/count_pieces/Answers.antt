-- `checker::counting::count_pieces` meets its contract: `x` columns are passed.
use Prim.Native.Nat.{ℕ}
use native.Mathlib.Omega.{arith}
use lib.ListN.{length-replicate}
use Rattle.checker.proofs.counting.Pass.{pass_start, pass_column, pass_small, pass_next, pass_end}
use Rattle.checker.proofs.ends.Kept.{kept_none, kept_all}
use Rattle.checker.proofs.counting.count_pieces.Goals as goal

pub loop-x-init : goal.loop-x-init
loop-x-init c =
    let s = c.requires in
    (pass_start _ _ _ _ _ _ (length-replicate {A = ℕ} 512 0) s.begun_zero s.joined_zero, kept_none)

pub pass_column-kept-requires-clause-labs : goal.pass_column-kept-requires-clause-labs
pass_column-kept-requires-clause-labs c = (pass_column _ _ _ _ _ _ _ _ _ c.requires.within c.loop-x.invariant.0).0

pub pass_column-kept-requires-clause-counted : goal.pass_column-kept-requires-clause-counted
pass_column-kept-requires-clause-counted c = (pass_column _ _ _ _ _ _ _ _ _ c.requires.within c.loop-x.invariant.0).1

pub overflow_add-q : goal.overflow_add-q
overflow_add-q c =
    omega (arith, pass_small _ _ _ _ _ _ _ _ _ c.requires.within c.loop-x.invariant.0 c.loop-x-test.true)

pub overflow_add-q-in-loop-x : goal.overflow_add-q-in-loop-x
overflow_add-q-in-loop-x c =
    omega (arith, pass_small _ _ _ _ _ _ _ _ _ c.requires.within c.loop-x.invariant.0 c.loop-x-test.true)

pub overflow_mul-b : goal.overflow_mul-b
overflow_mul-b c =
    omega (arith, pass_small _ _ _ _ _ _ _ _ _ c.requires.within c.loop-x.invariant.0 c.loop-x-test.true)

pub overflow_add-b : goal.overflow_add-b
overflow_add-b c =
    omega (arith, pass_small _ _ _ _ _ _ _ _ _ c.requires.within c.loop-x.invariant.0 c.loop-x-test.true)

pub overflow_add-b-in-loop-x : goal.overflow_add-b-in-loop-x
overflow_add-b-in-loop-x c =
    omega (arith, pass_small _ _ _ _ _ _ _ _ _ c.requires.within c.loop-x.invariant.0 c.loop-x-test.true)

pub loop-x-preserved : goal.loop-x-preserved
loop-x-preserved c =
    let e = c.pass_column-kept.ensures in
    (pass_next _ _ _ _ _ _ _ _ _ c.requires.within c.loop-x.invariant.0 _ _ _ c.loop-x-test.true e.labs_after e.counted_after, e.kept_after)

pub returns : goal.returns
returns c =
    let (passed, kept) = c.loop-x.invariant in record {
      lowest_loose = kept_all passed.next.below c.loop-x-test.false kept _ c.then_some.ensures;
      counted_all = pass_end _ _ _ _ _ _ _ _ _ c.requires.within passed c.loop-x-test.false;
    }
