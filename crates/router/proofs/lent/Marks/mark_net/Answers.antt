-- `mark_net` meets its contract, by `put_marked`.
use Rattle.router.proofs.Laws.Arrays.{net_number, no_net}
use Rattle.router.proofs.Laws.Sets.{put_by, put_marked, none_put}
use Rattle.grid.proofs.Tests.{not_both}
use mathlib.Core.Path.{refl, sym, ◌∙◌}
use native.Mathlib.Omega.{arith}
use Rattle.router.proofs.lent.Marks.mark_net.Goals as goal

pub returns-then-v : goal.returns-then-v
returns-then-v c =
    let a = c.args in
    let p = a.plan.now in
    record {
      marks = λ b z.
          none_put p.last.now a.strands.now.many.now a.c a.v a.self.now.extended.now a.self.now.wide.now p.family (no_net a.v c.if-v.true b) z;
      lent = record { extended = refl; wide = refl };
    }

pub bounds-plan-i : goal.bounds-plan-i
bounds-plan-i c = omega (arith, (net_number c.args.v c.if-v.false).1, c.from-i.ensures)

pub bounds-many-i : goal.bounds-many-i
bounds-many-i c = omega (arith, (net_number c.args.v c.if-v.false).1, c.from-i.ensures)

pub returns-then-is_narrow : goal.returns-then-is_narrow
returns-then-is_narrow c =
    let a = c.args in
    let p = a.plan.now in
    let k = net_number a.v c.if-v.false in
    let e = c.from-i.ensures in
    record {
      marks = λ b z.
          put_marked p.last.now a.strands.now.many.now a.c a.v a.self.now.extended.now a.self.now.wide.now _ a.self.now.wide.now p.family
          (λ y. omega (arith, k.0)) b
          (put_by (rw e at c.is_extended.ensures) (rw e at c.put.ensures))
          (λ y. absurd (not_both (sym c.is_narrow.ensures ∙ c.if-is_narrow.true) y));
      lent = record { extended = refl; wide = refl };
    }

pub returns : goal.returns
returns c =
    let a = c.args in
    let p = a.plan.now in
    let k = net_number a.v c.if-v.false in
    let e = c.from-i.ensures in
    record {
      marks = λ b z.
          put_marked p.last.now a.strands.now.many.now a.c a.v a.self.now.extended.now a.self.now.wide.now _ _ p.family
          (λ y. omega (arith, k.0)) b
          (put_by (rw e at c.is_extended.ensures) (rw e at c.put.ensures)) (λ y. put_by (rw e at c.is_wide.ensures) (rw e at c.put-2.ensures));
      lent = record { extended = refl; wide = refl };
    }
