-- `next_net` meets its contract.
use Prim.Native.Nat.{◌%◌}
use mathlib.Core.Path.{◌≡◌, refl}
use native.Mathlib.Omega.{arith}
use Rattle.router.proofs.nets.next_net.Goals as goal

pub returns : goal.returns
returns c =
    let e : c.from.result % 512 ≡ c.args.v = omega (arith, c.from.ensures) in
    record { place = c.above.result; least = rw e at c.above.ensures; is = refl }
