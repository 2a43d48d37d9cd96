-- `end_strands` meets its contract: of at most two strands the end of both is enough, by `cleared_ends`.
use Rattle.router.proofs.Laws.Arrays
use native.Mathlib.Nat.{le_refl}
use native.Mathlib.Omega.{arith}
use mathlib.Core.Path.{◌∙◌}
use Rattle.router.proofs.lent.Tracks.end_strands.Goals as goal

pub returns-then-number-le2 : goal.returns-then-number-le2
returns-then-number-le2 c =
    let o = c.args in
    let e = rw c.from.ensures at c.end_at.ensures in
    let g = rw c.from-then-number-le2.ensures at c.end_at-then-number-le2.ensures in
    record {
      ended = λ t m v n.
          let f =
          e.frees t
          (record { low = m.low; order = le_refl o.a; high = omega (arith, m.order, m.high); fits = m.fits; sized = m.sized; frees = m.frees }) in
          let l = Arrays.cleared-length o.net o.a o.self.now.nets.now _ e.nets m.sized in
          record {
            cleared = Arrays.cleared_ends _ _ _ _ _ _ v m.order (omega (arith, m.high, m.fits, m.sized)) (n c.if-number-le2.true) e.nets g.nets;
            frees = g.frees t (record { low = omega (arith, m.low, m.order); order = le_refl o.b; high = m.high; fits = m.fits; sized = l; frees = f });
          };
      lent = record { nets = g.lent.nets ∙ e.lent.nets; free = g.lent.free ∙ e.lent.free };
    }

pub returns : goal.returns
returns c = record { ended = λ t m v n. c.end_between.ensures.ended t m; lent = c.end_between.ensures.lent }
