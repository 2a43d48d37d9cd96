-- `grid::gaps::largest_count` meets its contract: the count is that of the gap passed last, and the largest over those passed.
use Prim.Native.Nat.{◌+◌, max}
use mathlib.Core.Path.{◌≡◌, refl, sym, ap, ap₂, ◌∙◌}
use lib.ListN.{length}
use native.Mathlib.Numerals.{add-one}
use native.Mathlib.Omega.{arith}
use Rattle.std.proofs.Common.{rules}
use Rattle.grid.specs.Channel.{open_at, largest, density}
use Rattle.grid.specs.Nets.{first_column, last_column}
use Rattle.grid.specs.Working.{nets_on}
use Rattle.grid.proofs.Scanning.{Passed, passed}
use Rattle.grid.proofs.Tables.{table-length}
use Rattle.grid.proofs.OpenNets.{none_open, open_le, largest_none, largest_more, open_turn}
use Rattle.grid.proofs.gaps.largest_count.Goals as goal
use Rattle.grid.proofs.gaps.largest_count.Goals.{After-from-q}

-- the column of this turn
column : (c : After-from-q) → Passed c.args.top.now c.args.bottom.now c.loop-i.i c.from-p.result c.from-q.result
column c = passed c.args.top.now c.args.bottom.now c.loop-i.i _ _ c.requires.0 (omega arith) c.from-p.ensures c.from-q.ensures

-- the nets that start and end there
turned : (c : After-from-q)
    → open_at c.args.top.now c.args.bottom.now (c.loop-i.i + 1) + nets_on c.args.last.now (c.loop-i.i + 1) c.from-p.result c.from-q.result
    ≡ c.loop-i.here + nets_on c.args.first.now (c.loop-i.i + 1) c.from-p.result c.from-q.result
turned c =
    let a = c.args in
    let w = column c in
    open_turn a.top.now a.bottom.now a.first.now a.last.now c.requires.0 c.requires.1 c.requires.2 c.loop-i.i _ _ _ _ w.above w.below refl c.loop-i.invariant.0

pub loop-i-init : goal.loop-i-init
loop-i-init c = (sym (none_open c.args.top.now c.args.bottom.now), sym (largest_none c.args.top.now c.args.bottom.now))

pub after-here-requires : goal.after-here-requires
after-here-requires c =
    let a = c.args in
    let e = ap length c.requires.1 ∙ table-length (first_column a.top.now a.bottom.now) in
    let f = ap length c.requires.2 ∙ table-length (last_column a.top.now a.bottom.now) in
    let w = column (goal.at.after-here-requires c).After-from-q in record {
      size = (omega (arith, e, w.net), omega (arith, e, w.other), omega (arith, f, w.net), omega (arith, f, w.other));
      count = (omega (arith, c.loop-i.invariant.0, open_le a.top.now a.bottom.now c.loop-i.i), omega (arith, turned (goal.at.after-here-requires c).After-from-q));
    }

pub loop-i-preserved : goal.loop-i-preserved
loop-i-preserved c =
    let top = c.args.top.now in
    let bottom = c.args.bottom.now in
    let i = c.loop-i.i in
    let t = turned (goal.at.loop-i-preserved c).After-from-q in
    let e : c.after-here.result ≡ open_at top bottom (i + 1) = omega (arith, c.after-here.ensures) in
    let x : c.max-most.result ≡ max c.loop-i.most c.after-here.result = search rules in
    (e, x ∙ ap₂ max c.loop-i.invariant.1 (e ∙ ap (open_at top bottom) (add-one i)) ∙ sym (largest_more top bottom i) ∙ ap (largest top bottom) (sym (add-one i)))

pub returns : goal.returns
unfolding density
returns c = c.loop-i.invariant.1 ∙ ap (largest c.args.top.now c.args.bottom.now) (omega arith)
