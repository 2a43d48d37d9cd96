-- `report::lengths::added` meets its contract: the sums of the numbers passed.
use Prim.Native.Nat.{ℕ}
use Rattle.report.specs.Working.{four}
use Rattle.report.proofs.Tallies.{summed_more}
use Rattle.std.proofs.lemmas.List.{length-replicate}
use native.Mathlib.Omega.{arith}
use Rattle.report.proofs.lengths.added.Goals as goal

pub loop-v-init : goal.loop-v-init
loop-v-init c = record { size = length-replicate {A = ℕ} 257 0; done = λ v l. absurd (omega arith) }

pub overflow_add-sum : goal.overflow_add-sum
overflow_add-sum c = let h = c.requires.most c.loop-v.v in omega arith

pub overflow_add-sum-in-loop-v : goal.overflow_add-sum-in-loop-v
overflow_add-sum-in-loop-v c = let h = c.requires.most c.loop-v.v in omega arith

pub overflow_add-sum-in-loop-v-2 : goal.overflow_add-sum-in-loop-v-2
overflow_add-sum-in-loop-v-2 c = let h = c.requires.most c.loop-v.v in omega arith

pub loop-v-preserved : goal.loop-v-preserved
loop-v-preserved c =
    let a = c.args in
    summed_more (four a.a.now a.b.now a.c.now a.d.now) c.loop-v.v c.loop-v.sum-items _ c.loop-v.invariant (omega (arith, length-replicate {A = ℕ} 257 0)) (omega arith)

pub returns : goal.returns
returns c = (c.loop-v.invariant.size, λ v h. c.loop-v.invariant.done v (omega (arith, length-replicate {A = ℕ} 257 0)))
