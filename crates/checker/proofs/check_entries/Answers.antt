-- `checker::check_entries` meets its contract: the answer at each of its ways out.
use mathlib.Core.Path.{sym, ap, ◌∙◌}
use Rattle.std.specs.Prelude.{Err}
use Rattle.grid.specs.declared.refusals.Refusal.{Refusal}
use Rattle.grid.proofs.Numbers.{refusal_number}
use Rattle.checker.specs.Check.{fault_at}
use Rattle.checker.proofs.Answers.{entry_at, within, pin_at_lem, last_at, pieces_at, ends_at, all_passed}
use Rattle.checker.proofs.check_entries.Goals as goal

pub returns-in-Some : goal.returns-in-Some
returns-in-Some c =
    let a = c.args in
    entry_at a.top.now a.bottom.now a.w a.t a.layout.now _ _ c.in-Some.ensures (ap Err c.fault_at.ensures)

pub returns-in-Some-find_pin : goal.returns-in-Some-find_pin
returns-in-Some-find_pin c =
    let a = c.args in
    pin_at_lem a.top.now a.bottom.now a.w a.t a.layout.now c.in_default.ensures _ _ _ c.in-Some-find_pin.ensures c.pin_fault-refusal.ensures
    (ap Err c.fault_at-in-Some-find_pin.ensures ∙ ap (λ (r : Refusal). Err (fault_at r c.in-Some-find_pin.p)) (sym (refusal_number c.pin_fault-refusal.result)))

pub returns-in-Some-find_last : goal.returns-in-Some-find_last
returns-in-Some-find_last c =
    let a = c.args in
    last_at a.top.now a.bottom.now a.w a.t a.layout.now c.in_default.ensures c.in_default-find_pin.ensures _ _ c.in-Some-find_last.ensures
    (ap Err c.fault_at-in-Some-find_last.ensures)

pub faulty_nets-nets-requires : goal.faulty_nets-nets-requires
faulty_nets-nets-requires c =
    let a = c.args in
    let s = c.requires in
    within a.top.now a.bottom.now a.w a.t a.layout.now c.in_default.ensures _ s.pin_table s.layout_len s.w_bound s.t_bound

pub returns-in-Some-split : goal.returns-in-Some-split
returns-in-Some-split c =
    let a = c.args in
    pieces_at a.top.now a.bottom.now a.w a.t a.layout.now c.in_default.ensures c.in_default-find_pin.ensures c.in_default-find_last.ensures _ _
    (sym c.in-Some-split.is ∙ c.faulty_nets-nets.ensures.split_value) (ap Err c.fault_at-in-Some-split.ensures)

pub returns-in-Some-loose : goal.returns-in-Some-loose
returns-in-Some-loose c =
    let a = c.args in
    ap Err c.from.ensures
    ∙ ends_at a.top.now a.bottom.now a.w a.t a.layout.now c.in_default.ensures c.in_default-find_pin.ensures c.in_default-find_last.ensures
    (sym c.in_default-split.is ∙ c.faulty_nets-nets.ensures.split_value) _ (rw c.in-Some-loose.is at c.faulty_nets-nets.ensures.lowest_loose)

pub returns : goal.returns
returns c =
    let a = c.args in
    all_passed a.top.now a.bottom.now a.w a.t a.layout.now c.in_default.ensures c.in_default-find_pin.ensures c.in_default-find_last.ensures
    (sym c.in_default-split.is ∙ c.faulty_nets-nets.ensures.split_value) (rw c.in_default-loose.is at c.faulty_nets-nets.ensures.lowest_loose)
