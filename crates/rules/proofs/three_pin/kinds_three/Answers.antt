-- `kinds_three` meets its contract: each arm of the match, by the number of its pair of kinds.
use Rattle.rules.proofs.Moves.{moves}
use mathlib.Core.Path.{ap, ◌∙◌}
use Rattle.sweep.specs.declared.Double.{Double}
use Rattle.rules.proofs.Numbers.{at_kinds, no_kinds}
use native.Mathlib.Omega.{arith}
use Rattle.sweep.specs.ThreePin
use Rattle.sweep.specs.Rules
use Rattle.sweep.specs.Drawing.{no_joint}
use borrow.Author.Rules.{rules}
use Rattle.rules.proofs.three_pin.kinds_three.Goals as goal

pub overflow_mul-kind_number : goal.overflow_mul-kind_number
overflow_mul-kind_number c = omega (arith, c.kind_number.ensures)

pub overflow_add-kind_number : goal.overflow_add-kind_number
overflow_add-kind_number c = omega (arith, c.kind_number-2.ensures)

pub returns-in-1 : goal.returns-in-1
unfolding ThreePin.by_kinds ThreePin.join_else Rules.kind_of
returns-in-1 c =
    let o = c.args in
    at_kinds (ThreePin.by_kinds o.a o.b o.ea o.eb o.f no_joint o.d o.m) _ _ _ _ c.kind_number.ensures c.kind_number-2.ensures 1 c.in-1.is c.bottom_starts.ensures

pub returns-in-2 : goal.returns-in-2
unfolding ThreePin.by_kinds ThreePin.join_else Rules.kind_of
returns-in-2 c =
    let o = c.args in
    at_kinds (ThreePin.by_kinds o.a o.b o.ea o.eb o.f no_joint o.d o.m) _ _ _ _ c.kind_number.ensures c.kind_number-2.ensures 2 c.in-2.is (moves c.still.ensures c.go_direct.ensures)

pub returns-in-3 : goal.returns-in-3
unfolding ThreePin.by_kinds ThreePin.join_else Rules.kind_of
returns-in-3 c =
    let o = c.args in
    at_kinds (ThreePin.by_kinds o.a o.b o.ea o.eb o.f no_joint o.d o.m) _ _ _ _ c.kind_number.ensures c.kind_number-2.ensures 3 c.in-3.is (moves c.still-in-3.ensures c.bottom_ends.ensures)

pub returns-in-4 : goal.returns-in-4
unfolding ThreePin.by_kinds ThreePin.join_else Rules.kind_of
returns-in-4 c =
    let o = c.args in
    at_kinds (ThreePin.by_kinds o.a o.b o.ea o.eb o.f no_joint o.d o.m) _ _ _ _ c.kind_number.ensures c.kind_number-2.ensures 4 c.in-4.is c.top_starts.ensures

pub returns-in-5 : goal.returns-in-5
unfolding ThreePin.by_kinds ThreePin.join_else Rules.kind_of
returns-in-5 c =
    let o = c.args in
    at_kinds (ThreePin.by_kinds o.a o.b o.ea o.eb o.f no_joint o.d o.m) _ _ _ _ c.kind_number.ensures c.kind_number-2.ensures 5 c.in-5.is c.both_start.ensures

pub returns-in-6 : goal.returns-in-6
unfolding ThreePin.by_kinds ThreePin.join_else Rules.kind_of
returns-in-6 c =
    let o = c.args in
    at_kinds (ThreePin.by_kinds o.a o.b o.ea o.eb o.f no_joint o.d o.m) _ _ _ _ c.kind_number.ensures c.kind_number-2.ensures 6 c.in-6.is (c.bottom_goes_on.ensures ∙ ap (λ (z : Double). ThreePin.bottom_goes_on o.a o.b o.f z o.eb) c.beside.ensures)

pub returns-in-7 : goal.returns-in-7
unfolding ThreePin.by_kinds ThreePin.join_else Rules.kind_of
returns-in-7 c =
    let o = c.args in
    at_kinds (ThreePin.by_kinds o.a o.b o.ea o.eb o.f no_joint o.d o.m) _ _ _ _ c.kind_number.ensures c.kind_number-2.ensures 7 c.in-7.is (moves c.still-in-7.ensures c.bottom_ends-in-7.ensures)

pub returns-in-8 : goal.returns-in-8
unfolding ThreePin.by_kinds ThreePin.join_else Rules.kind_of
returns-in-8 c =
    let o = c.args in
    at_kinds (ThreePin.by_kinds o.a o.b o.ea o.eb o.f no_joint o.d o.m) _ _ _ _ c.kind_number.ensures c.kind_number-2.ensures 8 c.in-8.is (moves c.still-in-8.ensures c.go_direct-in-8.ensures)

pub returns-in-9 : goal.returns-in-9
unfolding ThreePin.by_kinds ThreePin.join_else Rules.kind_of
returns-in-9 c =
    let o = c.args in
    at_kinds (ThreePin.by_kinds o.a o.b o.ea o.eb o.f no_joint o.d o.m) _ _ _ _ c.kind_number.ensures c.kind_number-2.ensures 9 c.in-9.is (c.top_goes_on.ensures ∙ ap (λ (z : Double). ThreePin.top_goes_on o.a o.b o.f z o.ea) c.beside-in-9.ensures)

pub returns-in-10 : goal.returns-in-10
unfolding ThreePin.by_kinds ThreePin.join_else Rules.kind_of
returns-in-10 c =
    let o = c.args in
    at_kinds (ThreePin.by_kinds o.a o.b o.ea o.eb o.f no_joint o.d o.m) _ _ _ _ c.kind_number.ensures c.kind_number-2.ensures 10 c.in-10.is c.both_go_on.ensures

pub returns-in-11 : goal.returns-in-11
unfolding ThreePin.by_kinds ThreePin.join_else Rules.kind_of
returns-in-11 c =
    let o = c.args in
    at_kinds (ThreePin.by_kinds o.a o.b o.ea o.eb o.f no_joint o.d o.m) _ _ _ _ c.kind_number.ensures c.kind_number-2.ensures 11 c.in-11.is (moves c.still-in-11.ensures c.bottom_ends-in-11.ensures)

pub returns-in-12 : goal.returns-in-12
unfolding ThreePin.by_kinds ThreePin.join_else Rules.kind_of
returns-in-12 c =
    let o = c.args in
    at_kinds (ThreePin.by_kinds o.a o.b o.ea o.eb o.f no_joint o.d o.m) _ _ _ _ c.kind_number.ensures c.kind_number-2.ensures 12 c.in-12.is (moves c.still-in-12.ensures c.top_ends.ensures)

pub returns-in-13 : goal.returns-in-13
unfolding ThreePin.by_kinds ThreePin.join_else Rules.kind_of
returns-in-13 c =
    let o = c.args in
    at_kinds (ThreePin.by_kinds o.a o.b o.ea o.eb o.f no_joint o.d o.m) _ _ _ _ c.kind_number.ensures c.kind_number-2.ensures 13 c.in-13.is (moves c.still-in-13.ensures c.top_ends-in-13.ensures)

pub returns-in-14 : goal.returns-in-14
unfolding ThreePin.by_kinds ThreePin.join_else Rules.kind_of
returns-in-14 c =
    let o = c.args in
    at_kinds (ThreePin.by_kinds o.a o.b o.ea o.eb o.f no_joint o.d o.m) _ _ _ _ c.kind_number.ensures c.kind_number-2.ensures 14 c.in-14.is (moves c.still-in-14.ensures c.top_ends-in-14.ensures)

pub returns-in-15 : goal.returns-in-15
unfolding ThreePin.by_kinds ThreePin.join_else Rules.kind_of
returns-in-15 c =
    let o = c.args in
    at_kinds (ThreePin.by_kinds o.a o.b o.ea o.eb o.f no_joint o.d o.m) _ _ _ _ c.kind_number.ensures c.kind_number-2.ensures 15 c.in-15.is (moves c.still-in-15.ensures c.either_ends.ensures)

pub returns-in_default : goal.returns-in_default
unfolding ThreePin.by_kinds ThreePin.join_else Rules.kind_of
returns-in_default c =
    let o = c.args in
    no_kinds (ThreePin.by_kinds o.a o.b o.ea o.eb o.f no_joint o.d o.m) _ _ _ _ c.kind_number.ensures c.kind_number-2.ensures (search rules) (moves c.still-in_default.ensures c.go_straight.ensures)
