-- `grid::families::family_of` meets its contract: its three tests are those of the family.
use mathlib.Core.Path.{◌≡◌, sym, ◌∙◌}
use mathlib.Core.Bool.{◌||◌}
use lib.ListN.{length}
use Rattle.grid.specs.declared.Family.TheVariants.{TwoPin, ThreePin, ManyPin}
use Rattle.grid.specs.Channel.{pick, first_two_to, family}
use Rattle.grid.proofs.FamilyTests.{family_by}
use Rattle.grid.proofs.families.family_of.Goals as goal
use Rattle.grid.proofs.families.family_of.Goals.{Start}

-- the family by the tests
by_tests : (c : Start) → pick c.args.three (pick (c.args.four || first_two_to c.args.top.now c.args.bottom.now (length c.args.top.now)) ManyPin ThreePin) TwoPin
    ≡ family c.args.top.now c.args.bottom.now
by_tests c = family_by c.args.top.now c.args.bottom.now c.args.three c.args.four c.requires.three c.requires.four

pub returns-then-not-three : goal.returns-then-not-three
returns-then-not-three c = rw c.if-not-three.true at (by_tests (goal.at.returns-then-not-three c).Start)

pub returns-then-four : goal.returns-then-four
returns-then-four c = rw (c.if-not-three.false, c.if-four.true) at (by_tests (goal.at.returns-then-four c).Start)

pub returns-then-first_two : goal.returns-then-first_two
returns-then-first_two c = rw (c.if-not-three.false, c.if-four.false, sym c.first_two.ensures ∙ c.if-first_two.true) at (by_tests (goal.at.returns-then-first_two c).Start)

pub returns : goal.returns
returns c = rw (c.if-not-three.false, c.if-four.false, sym c.first_two.ensures ∙ c.if-first_two.false) at (by_tests (goal.at.returns c).Start)
