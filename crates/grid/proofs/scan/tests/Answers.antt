-- `grid::scan::tests` meets its contract: the tests over the numbers passed.
use mathlib.Core.Path.{◌≡◌, sym, ap, ◌∙◌}
use lib.ListN.{get_or}
use lib.Dec.{eqb, ltb}
use Rattle.grid.specs.Working.{some_to}
use Rattle.grid.proofs.Sums.{some_none, some_next}
use native.Mathlib.Omega.{arith}
use Rattle.grid.proofs.scan.tests.Goals as goal

pub loop-k-init : goal.loop-k-init
loop-k-init c =
    let l = c.args.pins.now in
    (sym (some_none (λ u. eqb (get_or l u 0) 1)), sym (some_none (λ u. ltb 2 (get_or l u 0))), sym (some_none (λ u. ltb 3 (get_or l u 0))))

pub loop-k-preserved : goal.loop-k-preserved
loop-k-preserved c =
    let l = c.args.pins.now in
    let i = c.loop-k.k-index in
    let h = c.loop-k.invariant in (
      some_next (λ x. eqb x 1) l i _ c.loop-k-test.true h.0,
      some_next (ltb 2) l i _ c.loop-k-test.true h.1,
      some_next (ltb 3) l i _ c.loop-k-test.true h.2,
    )

pub returns : goal.returns
returns c =
    let l = c.args.pins.now in
    let h = c.loop-k.invariant in
    let e : c.loop-k.k-index ≡ 256 = grind (arith) in record {
      single = h.0 ∙ ap (some_to (λ u. eqb (get_or l u 0) 1)) e;
      three = h.1 ∙ ap (some_to (λ u. ltb 2 (get_or l u 0))) e;
      four = h.2 ∙ ap (some_to (λ u. ltb 3 (get_or l u 0))) e;
    }
