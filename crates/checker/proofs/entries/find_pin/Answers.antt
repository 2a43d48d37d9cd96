-- `checker::entries::find_pin` meets its contract: no pin entry before column `x` is wrong.
use native.Mathlib.Omega.{arith}
use Prim.Native.Nat.{◌+◌, ◌*◌}
use mathlib.Core.Path.{◌≡◌, refl, sym, ◌∙◌}
use Rattle.checker.proofs.Least.{first_found, first_none}
use Rattle.checker.proofs.Limits.{column_inside, columns_all}
use Rattle.checker.proofs.entries.Pins.{pins_fine, pin_low, pin_high, pins_between}
use Rattle.checker.proofs.entries.find_pin.Goals as goal

pub returns-then-entry : goal.returns-then-entry
returns-then-entry c =
    let a = c.args in
    first_found _ _ _ c.loop-x.invariant (omega (arith, column_inside _ _ c.loop-x.x _ _ c.loop-x-test.true refl c.requires.layout_len))
    (pin_low a.top.now a.bottom.now a.t a.layout.now c.loop-x.x _ refl
    (λ z. c.if-entry.true (c.entry.ensures ∙ z ∙ sym c.entry-in-loop-x.ensures)))

pub returns-then-entry-2 : goal.returns-then-entry-2
returns-then-entry-2 c =
    let a = c.args in
    first_found _ _ _
    (pins_between a.top.now a.bottom.now a.t a.layout.now c.loop-x.x _ refl c.loop-x.invariant
    (sym c.entry.ensures ∙ c.if-entry.false ∙ c.entry-in-loop-x.ensures))
    (omega (arith, column_inside _ _ c.loop-x.x _ _ c.loop-x-test.true refl c.requires.layout_len))
    (pin_high a.top.now a.bottom.now a.t a.layout.now c.loop-x.x _ refl
    (λ z. c.if-entry-2.true (c.entry-in-loop-x-2.ensures ∙ z ∙ sym c.entry-in-loop-x-3.ensures)))

pub loop-x-preserved : goal.loop-x-preserved
loop-x-preserved c =
    let a = c.args in
    let e : c.loop-x.x * (2 * a.t + 1) + (2 * a.t + 1) ≡ (c.loop-x.x + 1) * (2 * a.t + 1) = omega arith in
    rw e at
    (pins_fine a.top.now a.bottom.now a.t a.layout.now c.loop-x.x _ refl c.loop-x.invariant
    (sym c.entry.ensures ∙ c.if-entry.false ∙ c.entry-in-loop-x.ensures)
    (sym c.entry-in-loop-x-2.ensures ∙ c.if-entry-2.false ∙ c.entry-in-loop-x-3.ensures))

pub returns : goal.returns
returns c = first_none _ _ _ c.loop-x.invariant (columns_all _ _ c.loop-x.x _ _ c.loop-x-test.false refl c.requires.layout_len)
