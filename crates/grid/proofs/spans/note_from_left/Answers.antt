-- `grid::spans::note_from_left` meets its contract: the columns passed are noted.
use mathlib.Core.Path.{refl}
use native.Mathlib.Omega.{arith}
use Rattle.grid.proofs.Scanning.{Passed, passed}
use Rattle.grid.proofs.Tables.{counted_none, first_pin_room, second_pin_room, counted_column, counted_all, noted_none, second-place, noted_column, noted_all}
use Rattle.grid.proofs.spans.note_from_left.Goals as goal
use Rattle.grid.proofs.spans.note_from_left.Goals.{After-from-in-loop-i}

-- the pins of the column of this turn as indices
pins : (c : After-from-in-loop-i) → Passed c.args.top.now c.args.bottom.now c.loop-i.i c.from.result c.from-in-loop-i.result
pins c = passed c.args.top.now c.args.bottom.now c.loop-i.i _ _ c.requires.0 (omega arith) c.from.ensures c.from-in-loop-i.ensures

pub loop-i-init : goal.loop-i-init
loop-i-init c = (noted_none c.args.top.now c.args.bottom.now c.args.last.now c.requires.1, counted_none c.args.top.now c.args.bottom.now c.args.pins.now c.requires.2)

pub note-requires : goal.note-requires
note-requires c =
    let w = passed c.args.top.now c.args.bottom.now c.loop-i.i _ _ c.requires.0 (omega arith) c.from.ensures refl in
    let r = first_pin_room _ _ _ _ c.loop-i.invariant.1 _ _ w in
    (omega (arith, c.loop-i.invariant.0.size, w.net), r.0, r.1)

pub note-requires-in-loop-i : goal.note-requires-in-loop-i
note-requires-in-loop-i c =
    let w = pins (goal.at.note-requires-in-loop-i c).After-from-in-loop-i in
    let r = second_pin_room _ _ _ _ c.loop-i.invariant.1 _ _ w _ c.note.ensures.pins in
    (second-place _ _ _ _ c.loop-i.invariant.0 _ _ _ w _ c.note.ensures.last, r.0, r.1)

pub loop-i-preserved : goal.loop-i-preserved
loop-i-preserved c =
    let w = pins (goal.at.loop-i-preserved c).After-from-in-loop-i in (
      noted_column _ _ _ _ c.loop-i.invariant.0 _ _ _ w _ c.note.ensures.last _ c.note-in-loop-i.ensures.last refl,
      counted_column _ _ _ _ c.loop-i.invariant.1 _ _ w _ c.note.ensures.pins _ c.note-in-loop-i.ensures.pins,
    )

pub returns : goal.returns
returns c =
    let h = c.loop-i.invariant in record {
      last = noted_all _ _ _ _ h.0 (omega arith);
      pins = counted_all _ _ _ _ h.1 (omega arith) c.requires.0.same;
    }
