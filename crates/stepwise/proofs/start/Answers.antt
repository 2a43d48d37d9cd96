-- `start` meets its contract: the state is made for the channel, or for the one without columns.
use mathlib.Core.Path.{ap, ◌∙◌}
use native.Mathlib.Omega.{arith}
use lib.ListN.{length-take}
use Rattle.grid.specs.Refusals.{number_of}
use Rattle.grid.proofs.Numbers.{passed_on}
use Rattle.stepwise.proofs.Begin.{Chosen, without, given, chosen_room, chosen_answers, chosen_begins, start_passes, started_number}
use Rattle.stepwise.proofs.start.Goals as goal
use Rattle.stepwise.proofs.start.Goals.{Joined-answer, in-Ok, in_default}

-- which of the two
chosen : (c : Joined-answer)
    → Chosen c.args.top.now c.args.bottom.now c.two_pin_facts-answer.result c.two_pin_facts-answer.ensures
    c.match-answer.n c.match-answer.t c.match-answer.firsts c.match-answer.lasts
chosen c = elim c.match-answer.branch [
  | in-Ok w ↦ given _ w.in-Ok.is w.n-is w.t-is w.firsts-is w.lasts-is
  | in_default w ↦ without _ w.in_default.is w.n-is w.t-is (w.firsts-is ∙ c.zeros-firsts.ensures) (w.lasts-is ∙ c.zeros-lasts.ensures)
]

pub padded-requires : goal.padded-requires
padded-requires c =
    let room = chosen_room _ _ _ _ (chosen c) in
    omega (arith, room, length-take c.match-answer.n c.args.top.now)

pub slice_bounds-padded-end-2 : goal.slice_bounds-padded-end-2
slice_bounds-padded-end-2 c =
    let room = chosen_room _ _ _ _ (chosen (goal.at.slice_bounds-padded-end-2 c).Joined-answer) in
    omega (arith, room, length-take c.match-answer.n c.args.bottom.now)

pub padded-requires-2 : goal.padded-requires-2
padded-requires-2 c =
    let room = chosen_room _ _ _ _ (chosen (goal.at.padded-requires-2 c).Joined-answer) in
    omega (arith, room, length-take c.match-answer.n c.args.bottom.now)

pub returns-in_err-answer : goal.returns-in_err-answer
returns-in_err-answer c =
    let choice = chosen (goal.at.returns-in_err-answer c).Joined-answer in
    let room = chosen_room _ _ _ _ choice in
    let e = c.in_err-answer.field-0.0 in
    let answer = passed_on _ e c.from_residual.ensures.1 ∙ start_passes _ _ _ c.two_pin_facts-answer.ensures e c.in_err-answer.was in record {
      answer = answer;
      number = ap number_of answer ∙ started_number _ _;
      state = chosen_begins _ _ _ _ choice c.padded.ensures c.padded-2.ensures (c.begin.ensures room.3);
    }

pub returns : goal.returns
returns c =
    let choice = chosen (goal.at.returns c).Joined-answer in
    let room = chosen_room _ _ _ _ choice in
    let answer = chosen_answers _ _ _ _ choice _ c.in_ok-answer.was c.formula.result c.formula.ensures in record {
      answer = answer;
      number = ap number_of answer ∙ started_number _ _;
      state = chosen_begins _ _ _ _ choice c.padded.ensures c.padded-2.ensures (c.begin.ensures room.3);
    }
