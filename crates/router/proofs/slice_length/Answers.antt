-- `slice_length` meets its contract.
use Rattle.router.proofs.Laws.Calls.{area}
use Rattle.grid.proofs.Tests.{not_both}
use mathlib.Core.Path.{refl, ap}
use Prim.Native.Nat.{ℕ, ◌+◌, ◌*◌}
use native.Mathlib.Omega.{arith}
use Rattle.router.proofs.slice_length.Goals as goal

pub sweep_channel-w-requires : goal.sweep_channel-w-requires
sweep_channel-w-requires c =
    record {
      planned = c.requires.planned;
      each_fits = c.requires.each_fits;
      narrow = c.requires.narrow;
      long_enough = λ d. absurd (not_both d refl);
    }

pub overflow_mul-result-2 : goal.overflow_mul-result-2
overflow_mul-result-2 c =
    let s = c.sweep_channel-w in
    omega (arith, area s.result c.args.plan.now.t (omega (arith, s.ensures.width, c.requires.narrow, c.requires.planned.most, c.requires.planned.fits)) c.requires.planned.fits)

pub returns : goal.returns
returns c = ap (λ (w : ℕ). w * (2 * c.args.plan.now.t + 1)) c.sweep_channel-w.ensures.width
