-- `grid::spans::count_pins` meets its contract: the pins of the columns passed are counted.
use Prim.Native.Nat.{ℕ}
use mathlib.Core.Path.{refl, subst, sym}
use lib.ListN.{length, length-append}
use Rattle.std.proofs.lemmas.Slice.Zip.{zip_turn, zip_end}
use Rattle.grid.proofs.Scanning.{Passed, passed, passed_as}
use Rattle.grid.proofs.Tables.{Counted, counted_none, first_pin_room, second_pin_room, counted_column, counted_all}
use native.Mathlib.Omega.{arith}
use Rattle.grid.proofs.spans.count_pins.Goals as goal
use Rattle.grid.proofs.spans.count_pins.Goals.{In-Some, After-from-in-loop-p}

-- the column of this turn, and its pins as indices
turn : (c : In-Some) → Passed c.args.top.now c.args.bottom.now (length c.loop-p.yielded) c.in-Some.field-0-0.now c.in-Some.field-0-1.now
turn c =
    let t = zip_turn c.args.top.now c.args.bottom.now c.loop-p.yielded c.into_iter-p-iterator.result c.loop-p.p-iterator c.next.new.self c.next.result (cc) (cc) c.loop-p.yielded_by
    (c.in-Some.field-0-0, c.in-Some.field-0-1) c.in-Some.is c.next.ensures.steps in
    passed _ _ _ _ _ c.requires.0 t.0 (t.2 0) (t.3 0)

pins : (c : After-from-in-loop-p) → Passed c.args.top.now c.args.bottom.now (length c.loop-p.yielded) c.from.result c.from-in-loop-p.result
pins c = passed_as _ _ _ _ _ _ _ (turn (goal.at.After-from-in-loop-p c).In-Some) c.from.ensures c.from-in-loop-p.ensures

pub loop-p-init : goal.loop-p-init
loop-p-init c = counted_none c.args.top.now c.args.bottom.now c.args.pins.now c.requires.1

pub count_pin-requires : goal.count_pin-requires
count_pin-requires c =
    first_pin_room _ _ _ _ c.loop-p.invariant _ _ (passed_as _ _ _ _ _ _ _ (turn (goal.at.count_pin-requires c).In-Some) c.from.ensures refl)

pub count_pin-requires-in-loop-p : goal.count_pin-requires-in-loop-p
count_pin-requires-in-loop-p c =
    second_pin_room _ _ _ _ c.loop-p.invariant _ _ (pins (goal.at.count_pin-requires-in-loop-p c).After-from-in-loop-p) _ c.count_pin.ensures

pub loop-p-preserved : goal.loop-p-preserved
loop-p-preserved c =
    let a = c.args in
    subst (λ (n : ℕ). Counted a.top.now a.bottom.now n c.count_pin-in-loop-p.new.pins) (sym (length-append c.loop-p.yielded _))
    (counted_column _ _ _ _ c.loop-p.invariant _ _ (pins (goal.at.loop-p-preserved c).After-from-in-loop-p) _ c.count_pin.ensures _ c.count_pin-in-loop-p.ensures)

pub returns : goal.returns
returns c =
    let e = zip_end c.args.top.now c.args.bottom.now c.loop-p.yielded c.into_iter-p-iterator.result c.loop-p.p-iterator c.next.new.self c.next.result (cc) (cc) c.loop-p.yielded_by c.in-None.is c.next.ensures.steps in
    counted_all c.args.top.now c.args.bottom.now (length c.loop-p.yielded) c.loop-p.pins c.loop-p.invariant (omega (arith, e, c.requires.0.same)) c.requires.0.same
