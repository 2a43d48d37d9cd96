-- `add_strand` meets its contract, by `strand_added`.
use Rattle.router.proofs.Laws.Arrays
use Rattle.router.specs.Lent.{on}
use mathlib.Core.Logic.{inl, inr}
use mathlib.Core.Path.{refl}
use native.Mathlib.Omega.{arith}
use Rattle.router.proofs.lent.Strands.add_strand.Goals as goal

pub returns-then-track-eq0 : goal.returns-then-track-eq0
returns-then-track-eq0 c =
    let o = c.args in
    record {
      held = λ t b f h. rw (Arrays.give_none o.g.track o.g.net (on t o.self.now) (inl c.if-track-eq0.true) f) h;
      lent = record { tracks = record { nets = refl; free = refl }; low = refl; high = refl; many = refl };
    }

pub returns-then-net : goal.returns-then-net
returns-then-net c =
    let o = c.args in
    record {
      held = λ t b f h. rw (Arrays.give_none o.g.track o.g.net (on t o.self.now) (inr (Arrays.no_net o.g.net c.if-net.true b)) f) h;
      lent = record { tracks = record { nets = refl; free = refl }; low = refl; high = refl; many = refl };
    }

pub bounds-self-v : goal.bounds-self-v
bounds-self-v c = omega (arith, (Arrays.net_number c.args.g.net c.if-net.false).1, c.from-v.ensures)

pub bounds-self-v-2 : goal.bounds-self-v-2
bounds-self-v-2 c = omega (arith, (Arrays.net_number c.args.g.net c.if-net.false).1, c.from-v.ensures)

pub bounds-self-v-3 : goal.bounds-self-v-3
bounds-self-v-3 c = omega (arith, (Arrays.net_number c.args.g.net c.if-net.false).1, c.from-v.ensures)

pub bounds-self-v-4 : goal.bounds-self-v-4
bounds-self-v-4 c = omega (arith, (Arrays.net_number c.args.g.net c.if-net.false).1, c.from-v.ensures)

pub bounds-self-v-5 : goal.bounds-self-v-5
bounds-self-v-5 c = omega (arith, (Arrays.net_number c.args.g.net c.if-net.false).1, c.from-v.ensures)

pub bounds-self-v-6 : goal.bounds-self-v-6
bounds-self-v-6 c = omega (arith, (Arrays.net_number c.args.g.net c.if-net.false).1, c.from-v.ensures)

pub returns : goal.returns
returns c =
    let o = c.args in
    let s = o.self.now in
    let k = Arrays.net_number o.g.net c.if-net.false in
    record {
      held = λ t b f h.
          rw (c.from-y.ensures, c.from-v.ensures)
          (Arrays.strand_added t o.g.track o.g.net s.tracks.nets.now s.tracks.free.now _ s.low.now s.high.now s.many.now _ _ _
          c.if-track-eq0.false (λ q. omega (arith, k.0)) b f h (rw c.from-y.ensures at c.remove.ensures)
          (rw c.from-v.ensures at c.lesser_of.ensures) (rw c.from-v.ensures at c.max.ensures) (rw (← c.from-v.ensures) refl));
      lent = record { tracks = record { nets = refl; free = refl }; low = refl; high = refl; many = refl };
    }
