-- `finish` meets its contract. The invariant: the columns of the nets below v are added, and v is the next net that remains, or 0.
use Rattle.router.proofs.Laws.Onward.{reached, reached_below}
use Rattle.router.proofs.Laws.Added.{Upto, onward_none, onward_joined, member-remains, next_column_fits, first_fit}
use Rattle.router.proofs.Laws.Sweeps.{on_small}
use Rattle.router.proofs.Laws.Arrays.{own}
use Rattle.router.specs.Lent.{on}
use Rattle.sweep.specs.Drawing.{remains}
use lib.ListN.{length}
use mathlib.Core.Path.{refl, subst, ◌∙◌}
use Prim.Native.Nat.{ℕ, ◌+◌, ◌*◌}
use native.Mathlib.Omega.{arith}
use Rattle.router.proofs.lent.Strands.finish.Goals as goal

pub loop-v-init : goal.loop-v-init
loop-v-init c =
    let h = c.requires.held in
    let rem = c.requires.remaining in
    let z = onward_none c.args.t c.args.n (on c.args.t c.args.self.now) c.args.layout.now c.args.marks.now.extended.now rem (on_small h) c.lowest_net-v.result h c.lowest_net-v.ensures in
    (z.small, z.upto, (λ d. member-remains (on c.args.t c.args.self.now) c.args.marks.now.extended.now rem c.lowest_net-v.result (z.found d)), refl)

pub join_net-requires : goal.join_net-requires
join_net-requires c =
    let l = c.loop-v in
    let r = next_column_fits c.args.t c.args.n (on c.args.t c.args.self.now) l.v l.w (length c.args.layout.now) c.loop-v-test.true l.invariant.0 (l.invariant.2 c.loop-v-test.true) l.invariant.1.columns c.requires.fits in
    record {
      is_net = (omega (arith, c.loop-v-test.true), l.invariant.0, omega (arith, r.0, c.requires.few_added));
      held = own l.invariant.1.holds;
      fits = omega (arith, r.1, l.invariant.3);
    }

pub overflow_add-w : goal.overflow_add-w
overflow_add-w c =
    let l = c.loop-v in
    let r = next_column_fits c.args.t c.args.n (on c.args.t c.args.self.now) l.v l.w (length c.args.layout.now) c.loop-v-test.true l.invariant.0 (l.invariant.2 c.loop-v-test.true) l.invariant.1.columns c.requires.fits in
    omega (arith, r.0, c.requires.few_added)

pub next_net-v-requires : goal.next_net-v-requires
next_net-v-requires c = c.loop-v.invariant.0

pub loop-v-smaller : goal.loop-v-smaller
loop-v-smaller c =
    let l = c.loop-v in
    let h = c.requires.held in
    let g = on c.args.t c.args.self.now in
    let t = c.loop-v-test.true in
    let j = c.join_net.ensures in
    let f = first_fit (remains g) c.args.n (2 * c.args.t + 1) (length c.args.layout.now) c.requires.fits in
    let z = onward_joined c.args.t c.args.n g c.args.layout.now c.args.marks.now.extended.now c.requires.remaining (on_small h) l.v l.w c.next_net-v.result t
    l.invariant.0 l.invariant.1 (l.invariant.2 t) f j.net_ended j.drawing c.next_net-v.ensures in
    omega (arith, z.onward, reached_below l.v t, l.invariant.0)

pub loop-v-preserved : goal.loop-v-preserved
loop-v-preserved c =
    let l = c.loop-v in
    let h = c.requires.held in
    let g = on c.args.t c.args.self.now in
    let t = c.loop-v-test.true in
    let j = c.join_net.ensures in
    let f = first_fit (remains g) c.args.n (2 * c.args.t + 1) (length c.args.layout.now) c.requires.fits in
    let z = onward_joined c.args.t c.args.n g c.args.layout.now c.args.marks.now.extended.now c.requires.remaining (on_small h) l.v l.w c.next_net-v.result t
    l.invariant.0 l.invariant.1 (l.invariant.2 t) f j.net_ended j.drawing c.next_net-v.ensures in
    (z.small, z.upto, (λ d. member-remains (on c.args.t c.args.self.now) c.args.marks.now.extended.now c.requires.remaining c.next_net-v.result (z.found d)), c.join_net.auto.layout ∙ l.invariant.3)

pub shape_of-layout : goal.shape_of-layout
shape_of-layout c = c.loop-v.invariant.3

pub returns : goal.returns
returns c =
    let l = c.loop-v in
    let g = on c.args.t c.args.self.now in
    let u : Upto c.args.t c.args.n g c.args.layout.now 256 l.w l.layout l.self.tracks.nets.now l.self.tracks.free.now l.self.low.now l.self.high.now l.self.many.now =
    subst (λ (z : ℕ). Upto c.args.t c.args.n g c.args.layout.now (reached z) l.w l.layout l.self.tracks.nets.now l.self.tracks.free.now l.self.low.now l.self.high.now l.self.many.now) c.loop-v-test.false l.invariant.1 in
    record {
      width = u.columns;
      drawing = u.shows;
    }
