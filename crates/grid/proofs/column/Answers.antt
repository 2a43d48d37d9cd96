-- `grid::column` meets its contract: the part that `column_part` names lies inside the layout.
use Prim.Native.Nat.{ℕ, ◌+◌, ◌-◌}
use mathlib.Core.Path.{◌≡◌, ap, subst, sym, ◌∙◌}
use lib.ListN.{length, take, drop}
use native.Mathlib.Omega.{arith}
use Rattle.grid.specs.declared.Part.{Part}
use Rattle.grid.specs.View.{part_of, column_view}
use Rattle.grid.proofs.Views.{Inside, part_inside}
use Rattle.grid.proofs.column.Goals as goal
use Rattle.grid.proofs.column.Goals.{After-column_part-p}

-- the part that was named lies inside
inside : (c : After-column_part-p) → Inside (length c.args.layout.now) c.column_part-p.result
inside c =
    let a = c.args in
    subst (Inside (length a.layout.now)) (sym c.column_part-p.ensures) (part_inside (length a.layout.now) a.w a.t a.c)

pub overflow_add-end : goal.overflow_add-end
overflow_add-end c = let i = inside (goal.at.overflow_add-end c).After-column_part-p in omega (arith, i.small)

pub offset_bounds-layout-start : goal.offset_bounds-layout-start
offset_bounds-layout-start c = let i = inside (goal.at.offset_bounds-layout-start c).After-column_part-p in omega (arith, i.small)

pub slice_bounds-result-end : goal.slice_bounds-result-end
slice_bounds-result-end c = let i = inside (goal.at.slice_bounds-result-end c).After-column_part-p in omega (arith, i.ends)

pub returns : goal.returns
unfolding column_view
returns c =
    let a = c.args in
    let p = c.column_part-p in
    let e : p.result.offset + p.result.length - p.result.offset ≡ p.result.length = omega arith in
    ap (λ (n : ℕ). take n (drop p.result.offset a.layout.now)) e ∙ ap (λ (q : Part). part_of a.layout.now q) p.ensures
