-- `add` meets its contract: by the laws of `Made`, one for each way out of it.
use mathlib.Core.Path.{◌≡◌, sym, ap, ◌∙◌}
use borrow.Author.Rules.{rules}
use Rattle.grid.specs.Refusals.{number_of}
use Rattle.grid.proofs.Numbers.{passed_on, number_nonzero}
use Rattle.board.proofs.Made.{Placing, add_refused, add_room, add_made}
use Rattle.board.proofs.add.Goals as goal
use Rattle.board.proofs.add.Goals.{After-place_net, In_ok-place_net}

-- what is known of the rows once the net is placed in them
facts : (c : After-place_net)
    → Placing c.args.columns c.args.net c.args.column1 c.args.side1 c.args.column2 c.args.side2
    c.columns_held-n.result (number_of c.place_net.result) c.args.top.now c.args.bottom.now
    c.place_net.new.top c.place_net.new.bottom
facts c = record {
  limit = c.columns_held-n.ensures;
  number = c.place_net.ensures.number;
  top = c.place_net.ensures.top;
  bottom = c.place_net.ensures.bottom;
}

-- where it is not refused
none : (c : In_ok-place_net) → number_of c.place_net.result ≡ 0
none c = ap number_of c.in_ok-place_net.was

pub returns-in_err-place_net : goal.returns-in_err-place_net
returns-in_err-place_net c =
    let e = c.in_err-place_net.field-0.0 in
    let p = ap number_of c.in_err-place_net.was in
    add_refused (facts (goal.at.returns-in_err-place_net c).After-place_net) _ (ap number_of (passed_on _ e c.from_residual.ensures.1) ∙ sym p)
    (λ z. number_nonzero e (sym p ∙ z)) c.args.counts.now

pub mend-requires-clause-last : goal.mend-requires-clause-last
mend-requires-clause-last c =
    let w = goal.at.mend-requires-clause-last c in
    add_room (facts w.After-place_net) (none w.In_ok-place_net) c.told-top c.told-bottom c.max-last.result c.max-last.ensures

pub returns : goal.returns
returns c =
    let w = goal.at.returns c in
    let m = c.mend in
    add_made (facts w.After-place_net) (none w.In_ok-place_net) c.min-first.result c.max-last.result c.min-first.ensures c.max-last.ensures
    _ (λ x y b r. search rules) c.args.counts.now m.new.counts m.ensures
