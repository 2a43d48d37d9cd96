-- `write_verticals` meets its contract: the runs and the segments are the vertical edges.
use Rattle.router.proofs.Laws.Columns.{verticals_by, two_runs_lem, flat-runs}
use mathlib.Core.Path.{refl, sym, ◌∙◌}
use Rattle.std.proofs.Common.{rules}
use Rattle.grid.specs.Segments.{segment}
use Rattle.router.specs.Working.{runs, two_runs}
use Rattle.router.proofs.writer.write_verticals.Goals as goal

pub returns-then-not-is_flat : goal.returns-then-not-is_flat
returns-then-not-is_flat c =
    verticals_by (segment c.args.x.wires) c.args.part.now _ c.args.t c.args.x (λ k. refl)
    (c.write_edges.ensures (segment c.args.x.wires) (λ k r b p. search rules))

pub returns-then-a-b : goal.returns-then-a-b
returns-then-a-b c =
    let w = c.args.x.wires in
    let f = sym c.is_flat.ensures ∙ c.if-not-is_flat.false in
    verticals_by _ c.args.part.now _ c.args.t c.args.x
    (λ k. sym (two_runs_lem w.bottom _ w.middle _ w.top k c.if-a-b.true)
    ∙ flat-runs w _ _ k f c.max-a.ensures c.max-b.ensures)
    (c.write_edges-then-a-b.ensures (two_runs w.bottom c.max-a.result w.top) (λ k r b p. search rules))

pub returns : goal.returns
returns c =
    let w = c.args.x.wires in
    let f = sym c.is_flat.ensures ∙ c.if-not-is_flat.false in
    verticals_by _ c.args.part.now _ c.args.t c.args.x
    (λ k. flat-runs c.args.x.wires _ _ k f c.max-a.ensures c.max-b.ensures)
    (c.write_edges-2.ensures (runs w.bottom c.max-a.result w.middle c.max-b.result w.top) (λ k r b p. search rules))
