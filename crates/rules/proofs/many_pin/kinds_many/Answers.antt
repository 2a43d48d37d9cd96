-- `kinds_many` meets its contract: each arm of the match, by the number of its pair of kinds.
use Rattle.rules.proofs.Numbers.{at_kinds, no_kinds}
use native.Mathlib.Omega.{arith}
use Rattle.sweep.specs.ManyPin
use Rattle.sweep.specs.Rules
use Rattle.rules.proofs.many_pin.kinds_many.Goals as goal

pub overflow_mul-kind_number : goal.overflow_mul-kind_number
overflow_mul-kind_number c = omega (arith, c.kind_number.ensures)

pub overflow_add-kind_number : goal.overflow_add-kind_number
overflow_add-kind_number c = omega (arith, c.kind_number-2.ensures)

pub returns-in-1 : goal.returns-in-1
unfolding ManyPin.by_kinds Rules.kind_of
returns-in-1 c =
    at_kinds (ManyPin.by_kinds c.args.a c.args.b c.args.f) _ _ _ _ c.kind_number.ensures c.kind_number-2.ensures 1 c.in-1.is c.bottom_takes_free.ensures

pub returns-in-2 : goal.returns-in-2
unfolding ManyPin.by_kinds Rules.kind_of
returns-in-2 c =
    at_kinds (ManyPin.by_kinds c.args.a c.args.b c.args.f) _ _ _ _ c.kind_number.ensures c.kind_number-2.ensures 2 c.in-2.is c.go_direct.ensures

pub returns-in-3 : goal.returns-in-3
unfolding ManyPin.by_kinds Rules.kind_of
returns-in-3 c =
    at_kinds (ManyPin.by_kinds c.args.a c.args.b c.args.f) _ _ _ _ c.kind_number.ensures c.kind_number-2.ensures 3 c.in-3.is c.bottom_ends.ensures

pub returns-in-4 : goal.returns-in-4
unfolding ManyPin.by_kinds Rules.kind_of
returns-in-4 c =
    at_kinds (ManyPin.by_kinds c.args.a c.args.b c.args.f) _ _ _ _ c.kind_number.ensures c.kind_number-2.ensures 4 c.in-4.is c.top_takes_free.ensures

pub returns-in-5 : goal.returns-in-5
unfolding ManyPin.by_kinds Rules.kind_of
returns-in-5 c =
    at_kinds (ManyPin.by_kinds c.args.a c.args.b c.args.f) _ _ _ _ c.kind_number.ensures c.kind_number-2.ensures 5 c.in-5.is c.both_take_free.ensures

pub returns-in-6 : goal.returns-in-6
unfolding ManyPin.by_kinds Rules.kind_of
returns-in-6 c =
    at_kinds (ManyPin.by_kinds c.args.a c.args.b c.args.f) _ _ _ _ c.kind_number.ensures c.kind_number-2.ensures 6 c.in-6.is c.bottom_continues.ensures

pub returns-in-7 : goal.returns-in-7
unfolding ManyPin.by_kinds Rules.kind_of
returns-in-7 c =
    at_kinds (ManyPin.by_kinds c.args.a c.args.b c.args.f) _ _ _ _ c.kind_number.ensures c.kind_number-2.ensures 7 c.in-7.is c.bottom_ends-in-7.ensures

pub returns-in-8 : goal.returns-in-8
unfolding ManyPin.by_kinds Rules.kind_of
returns-in-8 c =
    at_kinds (ManyPin.by_kinds c.args.a c.args.b c.args.f) _ _ _ _ c.kind_number.ensures c.kind_number-2.ensures 8 c.in-8.is c.go_direct-in-8.ensures

pub returns-in-9 : goal.returns-in-9
unfolding ManyPin.by_kinds Rules.kind_of
returns-in-9 c =
    at_kinds (ManyPin.by_kinds c.args.a c.args.b c.args.f) _ _ _ _ c.kind_number.ensures c.kind_number-2.ensures 9 c.in-9.is c.top_continues.ensures

pub returns-in-10 : goal.returns-in-10
unfolding ManyPin.by_kinds Rules.kind_of
returns-in-10 c =
    at_kinds (ManyPin.by_kinds c.args.a c.args.b c.args.f) _ _ _ _ c.kind_number.ensures c.kind_number-2.ensures 10 c.in-10.is c.both_continue.ensures

pub returns-in-11 : goal.returns-in-11
unfolding ManyPin.by_kinds Rules.kind_of
returns-in-11 c =
    at_kinds (ManyPin.by_kinds c.args.a c.args.b c.args.f) _ _ _ _ c.kind_number.ensures c.kind_number-2.ensures 11 c.in-11.is c.bottom_ends-in-11.ensures

pub returns-in-12 : goal.returns-in-12
unfolding ManyPin.by_kinds Rules.kind_of
returns-in-12 c =
    at_kinds (ManyPin.by_kinds c.args.a c.args.b c.args.f) _ _ _ _ c.kind_number.ensures c.kind_number-2.ensures 12 c.in-12.is c.top_ends.ensures

pub returns-in-13 : goal.returns-in-13
unfolding ManyPin.by_kinds Rules.kind_of
returns-in-13 c =
    at_kinds (ManyPin.by_kinds c.args.a c.args.b c.args.f) _ _ _ _ c.kind_number.ensures c.kind_number-2.ensures 13 c.in-13.is c.top_ends-in-13.ensures

pub returns-in-14 : goal.returns-in-14
unfolding ManyPin.by_kinds Rules.kind_of
returns-in-14 c =
    at_kinds (ManyPin.by_kinds c.args.a c.args.b c.args.f) _ _ _ _ c.kind_number.ensures c.kind_number-2.ensures 14 c.in-14.is c.top_ends-in-14.ensures

pub returns-in-15 : goal.returns-in-15
unfolding ManyPin.by_kinds Rules.kind_of
returns-in-15 c =
    at_kinds (ManyPin.by_kinds c.args.a c.args.b c.args.f) _ _ _ _ c.kind_number.ensures c.kind_number-2.ensures 15 c.in-15.is c.both_end.ensures

pub returns-in_default : goal.returns-in_default
unfolding ManyPin.by_kinds Rules.kind_of
returns-in_default c =
    no_kinds (ManyPin.by_kinds c.args.a c.args.b c.args.f) _ _ _ _ c.kind_number.ensures c.kind_number-2.ensures c.in_default.in_default-own.rest c.go_straight.ensures
