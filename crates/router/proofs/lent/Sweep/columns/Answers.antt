-- `columns` meets its contract. The invariant: the columns from + 1 to i are drawn, and the arrays hold gap i, where they held gap `from`.
use Rattle.router.proofs.Laws.Steps
use Rattle.router.proofs.Laws.Lent.{same_sweep}
use Rattle.router.specs.declared.lent.Plan.{Plan}
use Rattle.router.specs.Working.{Reads, FitsAt, DrawnTo}
use Rattle.router.specs.Lent.{Planned, At}
use Rattle.sweep.specs.Drawing.{move_at}
use Rattle.grid.proofs.Views.{product_le}
use lib.ListN.{get_or}
use mathlib.Core.Path.{◌≡◌, refl, sym, subst, ◌∙◌}
use mathlib.Core.List.{List}
use Prim.Native.Nat.{ℕ, ◌+◌, ◌*◌, ◌≤◌}
use native.Mathlib.Omega.{arith}
use Rattle.router.proofs.lent.Sweep.columns.Goals as goal

-- the pin that the code reads, as the channel's
pin_is : (row l : List ℕ) (c p : ℕ) → Reads row l → ((j : ℕ) → get_or l j 0 ≤ 256) → (get_or row c 0 ≤ 256 → p ≡ get_or row c 0) → get_or l c 0 ≡ p
pin_is row l c p e h k = sym (k (subst (λ (z : ℕ). z ≤ 256) (sym (e c)) (h c)) ∙ e c)

pub overflow_mul-each : goal.overflow_mul-each
overflow_mul-each c = omega (arith, c.requires.2)

pub overflow_add-each : goal.overflow_add-each
overflow_add-each c = omega (arith, c.requires.2)

pub loop-i-init : goal.loop-i-init
loop-i-init c = (
  refl,
  record {
    plan = refl;
    strands = record { tracks = record { nets = refl; free = refl }; low = refl; high = refl; many = refl };
    marks = record { extended = refl; wide = refl };
    mates = record { mates = refl; lone = refl };
  },
  λ tp bt et eb r f g. (g, λ l d. d),
)

pub advance-x-requires : goal.advance-x-requires
advance-x-requires c = (
  c.net_at-p.ensures.is_net,
  c.net_at-q.ensures.is_net,
  omega (arith, c.loop-i-test.true, c.requires.1),
  subst (λ (p : Plan). p.t ≤ 511) (sym c.loop-i.invariant.1.plan) c.requires.2,
)

pub overflow_mul-i : goal.overflow_mul-i
overflow_mul-i c =
    let t = c.args.self.now.plan.t in
    omega (arith, product_le c.loop-i.i (2 * t + 1) (omega (arith, c.loop-i-test.true, c.requires.1)) (omega (arith, c.requires.2)))

pub draw_column-requires : goal.draw_column-requires
draw_column-requires c =
    let l = c.loop-i in
    let t = c.args.self.now.plan.t in (
      c.requires.2,
      λ d. omega (arith, Steps.fits_next c.args.to l.i (2 * t + 1) (omega arith), c.requires.3 d, l.invariant.0),
    )

pub loop-i-preserved : goal.loop-i-preserved
loop-i-preserved c =
    let l = c.loop-i in
    let k = c.advance-x in
    let y = c.draw_column in
    let t = c.args.self.now.plan.t in (
      y.auto.layout ∙ l.invariant.0,
      same_sweep l.invariant.1 k.ensures.lent,
      λ tp bt et eb r f g.
          let s = l.invariant.2 tp bt et eb r f g in
          let advanced =
          subst (λ (p : Plan). Planned tp bt p → FitsAt p.t tp bt l.i → At tp bt p l.i l.self
          → (k.result ≡ (move_at p.t tp bt l.i).action) × At tp bt p (l.i + 1) k.new.self) l.invariant.1.plan
          (k.ensures.advanced tp bt (pin_is c.args.top.now tp l.i _ et r.tops c.net_at-p.ensures.pin)
          (pin_is c.args.bottom.now bt l.i _ eb r.bottoms c.net_at-q.ensures.pin)) in
          let m = advanced r (f l.i (omega arith) (omega arith)) s.0 in (
            m.1,
            λ q d.
                Steps.drawn_next c.args.drawing tp bt q l.layout _ l.i (l.i * (2 * t + 1)) k.result refl (s.1 q d) m.0 m.1.keeps.holds
                (y.ensures m.1.keeps.holds.sized),
          ),
    )

pub shape_of-layout : goal.shape_of-layout
shape_of-layout c = c.loop-i.invariant.0

pub returns : goal.returns
returns c =
    let l = c.loop-i in
    let p = c.args.self.now.plan in
    let e : l.i ≡ c.args.to = omega (arith, c.loop-i.auto.i-end (omega arith)) in
    record {
      swept = λ tp bt et eb r f g.
          let s = l.invariant.2 tp bt et eb r f g in (
            subst (λ (z : ℕ). At tp bt p z l.self) e s.0,
            λ q d. subst (λ (z : ℕ). DrawnTo c.args.drawing tp bt p.t z q l.layout) e (s.1 q d),
          );
      lent = l.invariant.1;
    }
