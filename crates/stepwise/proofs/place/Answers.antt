-- `place` meets its contract: by the laws of `Late`, one for each way out of it.
use mathlib.Core.Path.{◌≡◌, sym, ap, ◌∙◌}
use Rattle.grid.specs.Refusals.{number_of}
use Rattle.grid.proofs.Numbers.{passed_on, number_nonzero}
use Rattle.stepwise.proofs.Late.{Copied, place-refused, place_fails, place_dense, place_done}
use Rattle.stepwise.proofs.place.Goals as goal
use Rattle.stepwise.proofs.place.Goals.{After-place_net, In_ok-place_net}

-- what is known of the copies once the net is placed in them
facts : (c : After-place_net)
    → Copied c.args.columns c.args.drawn c.args.net c.args.column1 c.args.side1
    c.args.column2 c.args.side2 c.columns_held-n.result (number_of c.place_net.result)
    c.args.upper.now c.args.lower.now c.place_net.new.top c.place_net.new.bottom
facts c = record {
  limit = c.columns_held-n.ensures;
  sized = (c.told-upper, c.told-lower);
  number = c.place_net.ensures.number;
  top = c.place_net.ensures.top;
  bottom = c.place_net.ensures.bottom;
}

-- where the placing does not refuse
none : (c : In_ok-place_net) → number_of c.place_net.result ≡ 0
none c = ap number_of c.in_ok-place_net.was

pub returns-in_err-place_net-clause-channel : goal.returns-in_err-place_net-clause-channel
returns-in_err-place_net-clause-channel c =
    let e = c.in_err-place_net.field-0.0 in
    let p = ap number_of c.in_err-place_net.was in
    place-refused (facts (goal.at.returns-in_err-place_net-clause-channel c).After-place_net) c.args.tracks c.args.first.now c.args.last.now _
    (ap number_of (passed_on _ e c.from_residual.ensures.1) ∙ sym p) (λ z. number_nonzero e (sym p ∙ z))

pub returns-in_default-clause-channel : goal.returns-in_default-clause-channel
returns-in_default-clause-channel c =
    let w = goal.at.returns-in_default-clause-channel c in
    let p = ap number_of c.in_default.is in
    place_fails (facts w.After-place_net) c.args.tracks c.args.first.now c.args.last.now (none w.In_ok-place_net) _
    c.net_facts.ensures.number (λ z. number_nonzero _ (sym p ∙ z)) _ _ _ _ _

pub returns-then-tracks-facts-clause-channel : goal.returns-then-tracks-facts-clause-channel
returns-then-tracks-facts-clause-channel c =
    let w = goal.at.returns-then-tracks-facts-clause-channel c in
    place_dense (facts w.After-place_net) c.args.tracks c.args.first.now c.args.last.now (none w.In_ok-place_net)
    _ c.in-Ok.ensures.answer c.if-tracks-facts.true

pub returns-clause-channel : goal.returns-clause-channel
returns-clause-channel c =
    let w = goal.at.returns-clause-channel c in
    place_done (facts w.After-place_net) c.args.tracks c.args.first.now c.args.last.now (none w.In_ok-place_net)
    _ c.in-Ok.ensures.answer c.if-tracks-facts.false
