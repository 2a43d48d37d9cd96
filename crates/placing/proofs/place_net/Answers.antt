-- `placing::place_net` meets its contract: past the refusal both terminals are free, and each row takes its pins.
use mathlib.Core.Path.{sym, ap, ◌∙◌}
use Rattle.grid.specs.Refusals.{number_of}
use Rattle.grid.proofs.Numbers.{passed_on, number_positive}
use Rattle.placing.proofs.Pins.{second_room, row_kept, row_placed}
use Rattle.placing.proofs.Terminals.{Accepted, accepted_by, pin_room}
use Rattle.placing.specs.Placing.{placed_top, placed_bottom}
use native.Mathlib.Omega.{arith}
use Rattle.placing.proofs.place_net.Goals as goal
use Rattle.placing.proofs.place_net.Goals.{In_ok-refusal}

-- past the refusal the net is accepted
abbrev NetAccepted : In_ok-refusal → Type 0
NetAccepted c =
    let a = c.args in
    Accepted a.top.now a.bottom.now a.drawn a.net a.column1 a.side1 a.column2 a.side2

accepted : (c : In_ok-refusal) → NetAccepted c
accepted c =
    let a = c.args in
    accepted_by a.top.now a.bottom.now a.drawn a.net a.column1 a.side1 a.column2 a.side2 (sym c.in_ok-refusal.ensures)

pub returns-in_err-refusal : goal.returns-in_err-refusal
returns-in_err-refusal c =
    let a = c.args in
    let e = c.in_err-refusal.field-0.0 in
    let n = ap number_of (passed_on _ e c.from_residual.ensures.1) in
    let h = number_positive e in record {
      number = n ∙ c.in_err-refusal.ensures;
      top = row_kept _ a.top.now (placed_top a.top.now a.net a.column1 a.side1 a.column2 a.side2) (omega (arith, n, h));
      bottom = row_kept _ a.bottom.now (placed_bottom a.bottom.now a.net a.column1 a.side1 a.column2 a.side2) (omega (arith, n, h));
    }

pub put_pin-requires-clause-top : goal.put_pin-requires-clause-top
put_pin-requires-clause-top c = pin_room (accepted (goal.at.put_pin-requires-clause-top c).In_ok-refusal).first.above

pub put_pin-requires-clause-bottom : goal.put_pin-requires-clause-bottom
put_pin-requires-clause-bottom c = pin_room (accepted (goal.at.put_pin-requires-clause-bottom c).In_ok-refusal).first.below

pub put_pin-requires-2-clause-top : goal.put_pin-requires-2-clause-top
put_pin-requires-2-clause-top c =
    let a = c.args in
    second_room (accepted (goal.at.put_pin-requires-2-clause-top c).In_ok-refusal).second.above a.net a.column1 a.side1 c.put_pin.new.top c.put_pin.ensures.top

pub put_pin-requires-2-clause-bottom : goal.put_pin-requires-2-clause-bottom
put_pin-requires-2-clause-bottom c =
    let a = c.args in
    second_room (accepted (goal.at.put_pin-requires-2-clause-bottom c).In_ok-refusal).second.below a.net a.column1 a.side1 c.put_pin.new.bottom
    c.put_pin.ensures.bottom

pub returns : goal.returns
returns c =
    let p = c.put_pin in
    let q = c.put_pin-2 in
    let a = c.args in record {
      number = c.in_ok-refusal.ensures;
      top = row_placed 0 a.top.now p.new.top q.new.top a.net a.column1 a.side1 a.column2 a.side2 p.ensures.top q.ensures.top;
      bottom = row_placed 1 a.bottom.now p.new.bottom q.new.bottom a.net a.column1 a.side1 a.column2 a.side2 p.ensures.bottom q.ensures.bottom;
    }
