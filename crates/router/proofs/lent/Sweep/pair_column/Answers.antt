-- `pair_column` meets its contract: each arm of the match, by the number of its pair of kinds.
use Rattle.sweep.proofs.Rules.Kinds.{by_kinds_lem, by_number, idle, one_net, no_kinds_none, kinds_some}
use Rattle.sweep.specs.Working.{join_alone}
use Rattle.sweep.specs.TwoPin
use Rattle.sweep.specs.Rules
use mathlib.Core.Path.{refl, sym, ap, ◌∙◌}
use native.Mathlib.Omega.{arith}
use Rattle.router.proofs.lent.Sweep.pair_column.Goals as goal

pub overflow_cast-self : goal.overflow_cast-self
overflow_cast-self c = omega (arith, c.requires.kinds)

pub overflow_add-self : goal.overflow_add-self
overflow_add-self c = omega (arith, c.requires.kinds)

pub returns-then-a-b : goal.returns-then-a-b
unfolding TwoPin.choose_two
returns-then-a-b c h small N j =
    simp (one_net c.args.a.net c.args.b.net c.if-a-b.true, c.if-a-b.true) (c.go_full.ensures _ refl)

pub overflow_mul-a : goal.overflow_mul-a
overflow_mul-a c = omega (arith, c.requires.kinds)

pub overflow_add-a : goal.overflow_add-a
overflow_add-a c = omega (arith, c.requires.kinds)

pub lowest_joint-requires : goal.lowest_joint-requires
lowest_joint-requires c =
    c.requires.kinds.2

pub lowest_joint-requires-in-1 : goal.lowest_joint-requires-in-1
lowest_joint-requires-in-1 c =
    c.requires.kinds.2

pub lowest_joint-requires-in-4 : goal.lowest_joint-requires-in-4
lowest_joint-requires-in-4 c =
    c.requires.kinds.2

pub lowest_joint-requires-in-5 : goal.lowest_joint-requires-in-5
lowest_joint-requires-in-5 c =
    c.requires.kinds.2

pub returns-in-0 : goal.returns-in-0
returns-in-0 c h small N j =
    simp (no_kinds_none c.args.a c.args.b c.requires.kinded.0 c.requires.kinded.1 c.in-0.is)
    (c.join_alone.ensures ∙ ap join_alone (c.lowest_joint.ensures _ h small N j))

pub returns-in-1 : goal.returns-in-1
unfolding TwoPin.by_kinds Rules.kind_of
returns-in-1 c h small N j =
    simp (kinds_some c.args.a c.args.b c.requires.kinded.0 c.requires.kinded.1 (λ z. omega (arith, c.in-1.is)))
    (by_number c.args.a c.args.b _ N _ 1 c.if-a-b.false c.in-1.is (c.requires.kinds.0, c.requires.kinds.1)
    (cc (c.bottom_starts.ensures c.args.self.now.plan.t c.args.self.now.strands.tracks.nets.now h.fits h.sized h.frees, c.lowest_joint-in-1.ensures _ h small N j)))

pub returns-in-3 : goal.returns-in-3
unfolding TwoPin.by_kinds Rules.kind_of
returns-in-3 c h small N j =
    simp (kinds_some c.args.a c.args.b c.requires.kinded.0 c.requires.kinded.1 (λ z. omega (arith, c.in-3.is)))
    (by_number c.args.a c.args.b _ N _ 3 c.if-a-b.false c.in-3.is (c.requires.kinds.0, c.requires.kinds.1) c.bottom_ends.ensures)

pub returns-in-4 : goal.returns-in-4
unfolding TwoPin.by_kinds Rules.kind_of
returns-in-4 c h small N j =
    simp (kinds_some c.args.a c.args.b c.requires.kinded.0 c.requires.kinded.1 (λ z. omega (arith, c.in-4.is)))
    (by_number c.args.a c.args.b _ N _ 4 c.if-a-b.false c.in-4.is (c.requires.kinds.0, c.requires.kinds.1)
    (cc (c.top_starts.ensures c.args.self.now.plan.t c.args.self.now.strands.tracks.nets.now h.fits h.sized h.frees, c.lowest_joint-in-4.ensures _ h small N j)))

pub returns-in-5 : goal.returns-in-5
unfolding TwoPin.by_kinds Rules.kind_of
returns-in-5 c h small N j =
    simp (kinds_some c.args.a c.args.b c.requires.kinded.0 c.requires.kinded.1 (λ z. omega (arith, c.in-5.is)))
    (by_number c.args.a c.args.b _ N _ 5 c.if-a-b.false c.in-5.is (c.requires.kinds.0, c.requires.kinds.1)
    (cc (c.both_start.ensures c.args.self.now.plan.t c.args.self.now.strands.tracks.nets.now h.fits h.sized h.frees, c.lowest_joint-in-5.ensures _ h small N j)))

pub returns-in-7 : goal.returns-in-7
unfolding TwoPin.by_kinds Rules.kind_of
returns-in-7 c h small N j =
    simp (kinds_some c.args.a c.args.b c.requires.kinded.0 c.requires.kinded.1 (λ z. omega (arith, c.in-7.is)))
    (by_number c.args.a c.args.b _ N _ 7 c.if-a-b.false c.in-7.is (c.requires.kinds.0, c.requires.kinds.1) c.bottom_ends-in-7.ensures)

pub returns-in-12 : goal.returns-in-12
unfolding TwoPin.by_kinds Rules.kind_of
returns-in-12 c h small N j =
    simp (kinds_some c.args.a c.args.b c.requires.kinded.0 c.requires.kinded.1 (λ z. omega (arith, c.in-12.is)))
    (by_number c.args.a c.args.b _ N _ 12 c.if-a-b.false c.in-12.is (c.requires.kinds.0, c.requires.kinds.1) c.top_ends.ensures)

pub returns-in-13 : goal.returns-in-13
unfolding TwoPin.by_kinds Rules.kind_of
returns-in-13 c h small N j =
    simp (kinds_some c.args.a c.args.b c.requires.kinded.0 c.requires.kinded.1 (λ z. omega (arith, c.in-13.is)))
    (by_number c.args.a c.args.b _ N _ 13 c.if-a-b.false c.in-13.is (c.requires.kinds.0, c.requires.kinds.1) c.top_ends-in-13.ensures)

pub returns-in-15 : goal.returns-in-15
unfolding TwoPin.by_kinds Rules.kind_of
returns-in-15 c h small N j =
    simp (kinds_some c.args.a c.args.b c.requires.kinded.0 c.requires.kinded.1 (λ z. omega (arith, c.in-15.is)))
    (by_number c.args.a c.args.b _ N _ 15 c.if-a-b.false c.in-15.is (c.requires.kinds.0, c.requires.kinds.1) c.both_end.ensures)

pub returns-in_default : goal.returns-in_default
returns-in_default c h small N j =
    let r = c.in_default.in_default-own.rest in
    simp (kinds_some c.args.a c.args.b c.requires.kinded.0 c.requires.kinded.1 r.0.0.0.0.0.0.0.0.1)
    (by_kinds_lem c.args.a c.args.b _ N _ c.if-a-b.false
    (c.go_straight.ensures ∙ sym (idle c.args.a c.args.b _ N _ _ (c.requires.kinds.0, c.requires.kinds.1) r.0.0.0.0.0.0.0.0.1 r.0.0.0.0.0.0.0.1 r.0.0.0.0.0.0.1 r.0.0.0.0.0.1 r.0.0.0.0.1 r.0.0.0.1 r.0.0.1 r.0.1 r.1)))
