-- `sweep_channel` meets its contract: the columns 1 to n, then the columns added, or how many there are to add.
use Rattle.router.proofs.Laws.Added
use Rattle.router.proofs.Laws.Begin
use Rattle.router.proofs.Laws.Steps
use Rattle.router.specs.Working.{DrawnTo}
use Rattle.router.specs.Lent.{At}
use Rattle.router.proofs.Laws.Arrays.{own}
use Rattle.router.proofs.Laws.Sweeps.{on_small}
use Rattle.grid.proofs.Sums.{count_le}
use Rattle.sets.specs.Member.{member}
use mathlib.Core.Path.{refl}
use lib.ListN.{length}
use native.Mathlib.Omega.{arith}
use Rattle.router.proofs.sweep_channel.Goals as goal
use Rattle.router.proofs.sweep_channel.Goals.{After-columns}

pub columns-requires : goal.columns-requires
columns-requires c = (
  omega arith,
  omega (arith, c.requires.planned.most),
  c.requires.planned.fits,
  λ d. Added.sweep_fits c.args.plan.now.t c.args.top.now c.args.bottom.now (length c.args.layout.now) (c.requires.long_enough d),
)

-- after the columns 1 to n the arrays and sets hold gap n, and these columns are drawn
swept : (c : After-columns) →
    (let s = c.columns in
    At c.args.top.now c.args.bottom.now c.args.plan.now (length c.args.top.now) s.new.self
    × DrawnTo c.args.drawing c.args.top.now c.args.bottom.now c.args.plan.now.t (length c.args.top.now) c.args.layout.now
    s.new.layout)
swept c =
    let s = c.columns in
    let g = s.ensures.swept c.args.top.now c.args.bottom.now (λ i. refl) (λ i. refl) c.requires.planned (λ i p q. c.requires.each_fits i q)
    (Begin.begins c.args.top.now c.args.bottom.now c.args.plan.now.last.now c.args.plan.now.t c.args.plan.now.family c.no_tracks-nets.result
    c.all_free-free.result c.no_nets-low.result c.no_nets-high.result c.no_nets-many.result c.empty-extended.result
    c.empty-wide.result c.no_nets-mates.result c.empty-lone.result c.requires.planned.fits c.no_tracks-nets.ensures
    c.all_free-free.ensures c.no_nets-low.ensures c.no_nets-high.ensures c.no_nets-many.ensures c.empty-extended.ensures
    c.empty-wide.ensures c.no_nets-mates.ensures c.empty-lone.ensures) in
    (g.0, g.1 c.args.layout.now (Steps.none_drawn c.args.drawing c.args.top.now c.args.bottom.now c.args.plan.now.t c.args.layout.now))

pub finish-requires : goal.finish-requires
finish-requires c =
    let s = c.columns in
    let q = swept (goal.at.finish-requires c).After-columns in
    let g = q.0.keeps in
    let h = own g.holds in
    let rem = Begin.all_remain c.args.top.now c.args.bottom.now c.args.plan.now.first.now c.args.plan.now.last.now _ _ c.args.plan.now.family
    c.requires.planned.spans c.requires.planned.rows h g.marked in
    let z = Added.fits_all c.args.plan.now.t c.args.top.now c.args.bottom.now g.holds 511 (length c.args.layout.now) (length s.new.layout)
    s.auto.layout (omega (arith, c.requires.narrow, c.requires.planned.most, c.requires.planned.fits))
    (c.requires.long_enough c.if-drawing.true) in
    record {
      few_columns = c.requires.planned.most;
      few_added = z.0;
      held = h;
      remaining = rem;
      fits = z.1;
    }

pub returns-then-drawing : goal.returns-then-drawing
returns-then-drawing c =
    let s = c.columns in
    let q = swept (goal.at.returns-then-drawing c).After-columns in
    let f = c.finish in
    let w = Added.all_drawn c.args.plan.now.t c.args.top.now c.args.bottom.now q.0.keeps.holds c.args.drawing c.args.layout.now s.new.layout
    f.new.layout f.result
    c.if-drawing.true q.1 f.ensures.width f.ensures.drawing in
    record { width = w.0; drawing = w.1 }

pub columns_to_add-k-requires : goal.columns_to_add-k-requires
columns_to_add-k-requires c =
    let q = swept (goal.at.columns_to_add-k-requires c).After-columns in
    let g = q.0.keeps in
    let h = own g.holds in
    let rem = Begin.all_remain c.args.top.now c.args.bottom.now c.args.plan.now.first.now c.args.plan.now.last.now _ _ c.args.plan.now.family
    c.requires.planned.spans c.requires.planned.rows h g.marked in
    Added.members_nets _ _ rem (on_small h)

pub overflow_add-result : goal.overflow_add-result
overflow_add-result c =
    omega (arith, c.columns_to_add-k.ensures, count_le (member c.columns.new.self.marks.extended.now) 256, c.requires.planned.most)

pub returns : goal.returns
returns c =
    let q = swept (goal.at.returns c).After-columns in
    let g = q.0.keeps in
    let h = own g.holds in
    let rem = Begin.all_remain c.args.top.now c.args.bottom.now c.args.plan.now.first.now c.args.plan.now.last.now _ _ c.args.plan.now.family
    c.requires.planned.spans c.requires.planned.rows h g.marked in
    let w = Added.all_dry c.args.plan.now.t c.args.top.now c.args.bottom.now g.holds c.args.drawing c.args.layout.now _ _ _ _
    c.if-drawing.false q.1 rem refl c.columns_to_add-k.ensures in
    record { width = w.0; drawing = w.1 }
