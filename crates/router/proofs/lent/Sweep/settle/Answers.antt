-- `settle` meets its contract: the sets by `settled_pins`, the pairs by `mated_next`.
use Rattle.router.proofs.Laws.Marking
use mathlib.Core.Path.{refl, subst}
use Prim.Native.Nat.{ℕ, ◌+◌, ◌≤◌}
use native.Mathlib.Omega.{arith}
use Rattle.router.proofs.lent.Sweep.settle.Goals as goal

pub overflow_cast-c : goal.overflow_cast-c
overflow_cast-c c = omega (arith, c.requires)

pub overflow_add-c : goal.overflow_add-c
overflow_add-c c = omega (arith, c.requires)

pub settle-requires : goal.settle-requires
settle-requires c = c.requires

pub returns : goal.returns
returns c =
    let a = c.args in
    let s = a.self.now in
    let p = s.plan in
    record {
      settled = λ top bottom ep eq r k m g.
          let h = c.apply.ensures.held p.t g.applies k.holds in
          let z = Marking.zero_marked p.last.now s.strands.many.now _ a.c (a.c + 1) s.marks.extended.now s.marks.wide.now p.family (k.marked 0) in
          let above = subst (λ (y : ℕ). y ≤ 256) ep (r.tops a.c) in
          let below = subst (λ (y : ℕ). y ≤ 256) eq (r.bottoms a.c) in (
            Marking.settled_pins top bottom p.last.now a.c a.x (a.c + 1) a.p a.q refl ep eq r k g h
                (c.mark_three.ensures.marks g.applies.ended above below z),
            Marking.mated_next p.family
                (λ e. c.settle.ensures.settled top bottom ep eq r (g.applies.ended, g.double, g.single) e
                (Marking.others_told top bottom a.c a.x a.p a.q ep eq m k.holds g h e)),
          );
      lent = record { plan = refl; strands = c.apply.ensures.lent; marks = c.mark_three.ensures.lent; mates = c.settle.ensures.lent };
    }
