-- `drop` meets its contract: by the laws of `Made`, one for each way out of it.
use Prim.Native.Nat.{ℕ}
use mathlib.Core.Path.{◌≡◌, sym, refl, ◌∙◌}
use borrow.Author.Rules.{rules}
use lib.ListN.{take}
use Rattle.grid.specs.Nets.{last_column}
use Rattle.board.proofs.Loops.{column_is, no_column}
use Rattle.board.proofs.Made.{Dropping, none_last, drop_wrong, drop_room, drop_none, drop_made}
use Rattle.board.proofs.drop.Goals as goal
use Rattle.board.proofs.drop.Goals.{After-last_column}

-- what is known of the rows once the net's last column is sought
facts : (c : After-last_column) (last : ℕ) → last ≡ last_column (take c.columns_held-n.result c.args.top.now) (take c.columns_held-n.result c.args.bottom.now) c.args.net
    → Dropping c.args.columns c.args.net c.columns_held-n.result last c.args.top.now c.args.bottom.now
facts c last e = record {
  some = c.if-net-eq0.false;
  most = c.if-net-gt256.false;
  limit = c.columns_held-n.ensures;
  sized = (c.told-top, c.told-bottom);
  ends = e;
}

pub returns-then-net-eq0 : goal.returns-then-net-eq0
returns-then-net-eq0 c = drop_wrong c.args.columns c.args.net _ _ _ c.then-net-eq0.either

-- it has no last column
pub returns-in_default : goal.returns-in_default
returns-in_default c =
    drop_none (facts (goal.at.returns-in_default c).After-last_column _ refl) (no_column _ (sym c.in_default.is ∙ c.last_column.ensures)) _

-- nor has it where it has no first
pub returns-in_default-first_column : goal.returns-in_default-first_column
returns-in_default-first_column c =
    drop_none (facts (goal.at.returns-in_default-first_column c).After-last_column _ refl)
    (none_last _ _ c.args.net c.if-net-eq0.false (no_column _ (sym c.in_default-first_column.is ∙ c.first_column.ensures))) _

pub mend-requires-clause-last : goal.mend-requires-clause-last
mend-requires-clause-last c =
    drop_room (facts (goal.at.mend-requires-clause-last c).After-last_column _ (column_is _ _ (sym c.in-Some.is ∙ c.last_column.ensures)).0)

pub returns : goal.returns
returns c =
    let first = column_is _ _ (sym c.in-Some-first_column.is ∙ c.first_column.ensures) in
    let last = column_is _ _ (sym c.in-Some.is ∙ c.last_column.ensures) in
    drop_made (facts (goal.at.returns c).After-last_column _ last.0) (λ z. last.1 (sym last.0 ∙ z)) c.in-Some-first_column.first first.0
    _ (λ x y b r. search rules) _ c.mend.new.counts c.mend.ensures
    c.clear.new.row c.clear-2.new.row c.clear.ensures c.clear-2.ensures
