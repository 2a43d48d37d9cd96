-- `end_between` meets its contract. The invariant, where the tracks a to b are among the t tracks: the strands below track y are ended, and the set is the
-- free tracks.
use Rattle.router.proofs.Laws.Arrays
use Rattle.router.specs.Working.{ClearedFrom}
use mathlib.Core.Path.{◌≡◌, refl, subst, ◌∙◌}
use native.Mathlib.Nat.{le_refl}
use Prim.Native.Nat.{◌+◌, ℕ}
use native.Mathlib.Omega.{arith}
use Rattle.router.proofs.lent.Tracks.end_between.Goals as goal

pub loop-y-init : goal.loop-y-init
loop-y-init c =
    let o = c.args in
    (record { nets = refl; free = refl }, λ t m. (rw c.from-y.ensures (Arrays.cleared_none o.net o.a o.self.now.nets.now), m.frees))

pub loop-y-preserved : goal.loop-y-preserved
loop-y-preserved c =
    let o = c.args in
    let l = c.loop-y in
    let e = c.end_at.ensures in (
      record { nets = e.lent.nets ∙ l.invariant.0.nets; free = e.lent.free ∙ l.invariant.0.free },
      λ t m.
          let i = l.invariant.1 t m in (
            Arrays.cleared_next o.net o.a l.y o.self.now.nets.now l.self.nets.now c.end_at.new.self.nets.now i.0 (omega (arith, c.from-y.ensures))
                (omega (arith, m.high, m.fits, m.sized, c.from-y-end.ensures)) e.nets,
            e.frees t
                (record {
                  low = omega (arith, m.low, c.from-y.ensures);
                  order = le_refl l.y;
                  high = omega (arith, m.high, c.from-y-end.ensures);
                  fits = m.fits;
                  sized = i.0.sized ∙ m.sized;
                  frees = i.1;
                }),
          ),
    )

pub returns : goal.returns
returns c =
    let o = c.args in
    let l = c.loop-y in
    record {
      ended = λ t m.
          let i = l.invariant.1 t m in
          let e : l.y ≡ o.b + 1 = omega (arith, m.order, c.from-y.ensures, c.from-y-end.ensures) in
          record { cleared = subst (λ (z : ℕ). ClearedFrom o.net o.a z o.self.now.nets.now l.self.nets.now) e i.0; frees = i.1 };
      lent = l.invariant.0;
    }
