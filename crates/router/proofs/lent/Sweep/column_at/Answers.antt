-- `column_at` meets its contract, by the law of its family: `column_is_lem`, `column_three_is` or `column_many_is`.
use Rattle.router.proofs.Laws.Sweeps
use Rattle.router.proofs.Laws.Doubles.{column_three_is, pin_small}
use Rattle.router.specs.Working.{narrow, forms, pin_by}
use Rattle.sweep.specs.declared.Pin.{Pin}
use Prim.Native.Nat.{ℕ, ◌+◌}
use mathlib.Core.Path.{ap, sym, ◌∙◌}
use lib.Dec.{ltb}
use lib.ListN.{get_or}
use Rattle.router.proofs.lent.Sweep.column_at.Goals as goal

pub pin_at-a-requires : goal.pin_at-a-requires
pin_at-a-requires c = (c.requires.2, c.requires.0)

pub pin_at-b-requires : goal.pin_at-b-requires
pin_at-b-requires c = (c.requires.2, c.requires.1)

pub pair_column-requires : goal.pair_column-requires
pair_column-requires c =
    let b = c.pin_at-b in
    let a = c.pin_at-a in
    record {
      kinds = (Sweeps.pin_kind _ _ _ _ _ _ _ a.result a.ensures, Sweeps.pin_kind _ _ _ _ _ _ _ b.result b.ensures, c.requires.2, c.requires.3);
      kinded = (Sweeps.pin_kinded _ _ _ _ _ _ _ a.result a.ensures, Sweeps.pin_kinded _ _ _ _ _ _ _ b.result b.ensures);
    }

pub three_column-requires : goal.three_column-requires
three_column-requires c =
    let b = c.pin_at-b in
    let a = c.pin_at-a in (
      pin_small _ _ _ _ _ _ _ a.result c.requires.0 a.ensures,
      pin_small _ _ _ _ _ _ _ b.result c.requires.1 b.ensures,
      c.requires.2,
      c.requires.3,
    )

pub goes_on-later-requires : goal.goes_on-later-requires
goes_on-later-requires c =
    (c.requires.2, c.requires.0)

pub many_column-requires : goal.many_column-requires
many_column-requires c =
    (c.requires.2, c.requires.3)

pub returns-in-TwoPin : goal.returns-in-TwoPin
returns-in-TwoPin c top bottom ep eq r k m =
    let b = c.pin_at-b in
    let a = c.pin_at-a in
    let g = c.args in
    let s = g.self.now in
    let first = s.plan.first.now in
    let last = s.plan.last.now in
    let h = k.holds in
    let pin : ℕ → Pin = λ v.
    pin_by (get_or first v 0) (get_or last v 0) (get_or s.strands.low.now v 0) (get_or s.strands.high.now v 0) (get_or s.strands.many.now v 0) g.c v in
    let ea = a.ensures ∙ ap pin (sym ep) in
    let eb = b.ensures ∙ ap pin (sym eq) in
    Sweeps.column_is_lem top bottom first last g.c a.result b.result h k.marked ea eb _ _ s.mates.mates.now
    c.in-TwoPin.is r
    (c.pair_column.ensures h
    (Sweeps.extended_small top bottom first last r.spans h g.c k.marked))
    c.still.ensures

pub returns-in-ThreePin : goal.returns-in-ThreePin
returns-in-ThreePin c top bottom ep eq r k m =
    let b = c.pin_at-b in
    let a = c.pin_at-a in
    let g = c.args in
    let s = g.self.now in
    let first = s.plan.first.now in
    let last = s.plan.last.now in
    let h = k.holds in
    let pin : ℕ → Pin = λ v.
    pin_by (get_or first v 0) (get_or last v 0) (get_or s.strands.low.now v 0) (get_or s.strands.high.now v 0) (get_or s.strands.many.now v 0) g.c v in
    let ea = a.ensures ∙ ap pin (sym ep) in
    let eb = b.ensures ∙ ap pin (sym eq) in
    let e = c.in-ThreePin.is in
    column_three_is top bottom first last g.c a.result b.result _ h k.marked s.mates.mates.now s.mates.lone.now (m.lone (ap forms e)) ea eb e r
    (c.three_column.ensures h
    (Sweeps.extended_small top bottom first last r.spans h g.c k.marked))

pub returns-in-ManyPin : goal.returns-in-ManyPin
returns-in-ManyPin c top bottom ep eq r k m =
    let b = c.pin_at-b in
    let a = c.pin_at-a in
    let g = c.args in
    let s = g.self.now in
    let first = s.plan.first.now in
    let last = s.plan.last.now in
    let h = k.holds in
    let pin : ℕ → Pin = λ v.
    pin_by (get_or first v 0) (get_or last v 0) (get_or s.strands.low.now v 0) (get_or s.strands.high.now v 0) (get_or s.strands.many.now v 0) g.c v in
    let ea = a.ensures ∙ ap pin (sym ep) in
    let eb = b.ensures ∙ ap pin (sym eq) in
    let e = c.in-ManyPin.is in
    Sweeps.column_many_is top bottom first last g.c a.result b.result h k.marked ea eb _ _ _ s.mates.mates.now e r
    (c.goes_on-later.ensures ∙ ap (λ (v : ℕ). ltb (g.c + 1) (get_or last v 0)) (sym ep))
    (c.many_column.ensures h
    (Sweeps.to_join_small top bottom first last r.spans h g.c k.marked (ap narrow e)))
    c.still-in-ManyPin.ensures
