-- `drop_net` meets its contract, by `strands_dropped`; a net without strands has none to end.
use Rattle.router.proofs.Laws.Arrays
use Rattle.router.specs.Lent.{on}
use mathlib.Core.Logic.{inl}
use mathlib.Core.Path.{refl}
use Rattle.sweep.proofs.Tracks.Changed.{clear_idle}
use native.Mathlib.Omega.{arith}
use Rattle.router.proofs.lent.Strands.drop_net.Goals as goal

pub returns-then-net : goal.returns-then-net
returns-then-net c =
    let o = c.args in
    record {
      held = λ t b h. rw (clear_idle o.net (on t o.self.now) (inl (Arrays.no_net o.net c.if-net.true b))) h;
      lent = record { tracks = record { nets = refl; free = refl }; low = refl; high = refl; many = refl };
    }

pub bounds-self-v : goal.bounds-self-v
bounds-self-v c = omega (arith, (Arrays.net_number c.args.net c.if-net.false).1, c.from-v.ensures)

pub bounds-self-v-2 : goal.bounds-self-v-2
bounds-self-v-2 c = omega (arith, (Arrays.net_number c.args.net c.if-net.false).1, c.from-v.ensures)

pub bounds-self-v-3 : goal.bounds-self-v-3
bounds-self-v-3 c = omega (arith, (Arrays.net_number c.args.net c.if-net.false).1, c.from-v.ensures)

pub bounds-self-v-4 : goal.bounds-self-v-4
bounds-self-v-4 c = omega (arith, (Arrays.net_number c.args.net c.if-net.false).1, c.from-v.ensures)

pub bounds-self-v-5 : goal.bounds-self-v-5
bounds-self-v-5 c = omega (arith, (Arrays.net_number c.args.net c.if-net.false).1, c.from-v.ensures)

pub bounds-self-v-6 : goal.bounds-self-v-6
bounds-self-v-6 c = omega (arith, (Arrays.net_number c.args.net c.if-net.false).1, c.from-v.ensures)

pub returns-then-number-eq0 : goal.returns-then-number-eq0
returns-then-number-eq0 c =
    let s = c.args.self.now in
    let k = Arrays.net_number c.args.net c.if-net.false in
    record {
      held = λ t b h.
          Arrays.nothing_dropped t c.args.net s.tracks.nets.now s.tracks.free.now s.low.now s.high.now s.many.now k.0 b h
          (rw c.from-v.ensures at c.if-number-eq0.true);
      lent = record { tracks = record { nets = refl; free = refl }; low = refl; high = refl; many = refl };
    }

pub returns : goal.returns
returns c =
    let s = c.args.self.now in
    let k = Arrays.net_number c.args.net c.if-net.false in
    let e = c.end_strands.ensures in
    record {
      held = λ t b h.
          rw c.from-v.ensures
          (Arrays.strands_dropped t c.args.net s.tracks.nets.now s.tracks.free.now _ _ s.low.now s.high.now s.many.now k.0 b h
          (rw c.from-v.ensures at c.if-number-eq0.false) (rw c.from-v.ensures at e.ended t));
      lent = record { tracks = e.lent; low = refl; high = refl; many = refl };
    }
