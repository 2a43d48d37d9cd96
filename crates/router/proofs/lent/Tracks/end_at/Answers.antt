-- `end_at` meets its contract: the track is set to 0 where it holds the net, and else keeps what it holds.
use Rattle.router.proofs.Laws.Arrays
use borrow.Author.Tests.{eq-eqb}
use mathlib.Core.Path.{refl}
use Rattle.router.proofs.lent.Tracks.end_at.Goals as goal

pub returns-then-self-y : goal.returns-then-self-y
returns-then-self-y c =
    let o = c.args in record {
      nets = rw (eq-eqb _ _ c.if-self-y.true) refl;
      frees = λ t m. Arrays.frees_put t o.y 0 o.self.now.nets.now o.self.now.free.now _ m.frees m.low m.high m.fits m.sized c.insert.ensures;
      lent = record { nets = refl; free = refl };
    }

pub returns-else-self-y : goal.returns-else-self-y
returns-else-self-y c =
    let o = c.args in
    record {
      nets = Arrays.kept_track o.net o.y o.self.now.nets.now c.if-self-y.false;
      frees = λ t m. m.frees;
      lent = record { nets = refl; free = refl };
    }
