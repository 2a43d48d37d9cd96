-- `begin` meets its contract.
use Rattle.router.specs.Working.{Frees, blank}
use Prim.Native.Nat.{ℕ, ◌%◌}
use mathlib.Core.Path.{◌≡◌, subst}
use native.Mathlib.Omega.{arith}
use Rattle.router.proofs.steps.begin.Goals as goal

pub returns : goal.returns
returns c h =
    let t = c.args.t in
    let f = c.all_free in
    let e : t % 512 ≡ t = omega arith in
    record {
      tracks = c.no_tracks.ensures;
      frees = subst (λ (k : ℕ). Frees k blank f.result) e f.ensures;
      lows = c.no_nets.ensures;
      highs = c.no_nets-2.ensures;
      numbers = c.no_nets-3.ensures;
      none = c.empty.ensures;
    }
