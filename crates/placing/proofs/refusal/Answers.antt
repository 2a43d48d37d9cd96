-- `placing::refusal` meets its contract: a number in use has a pin in either row.
use native.Mathlib.Omega.{arith}
use Rattle.std.proofs.lemmas.Bool.Decides.{nat_tests}
use Rattle.placing.proofs.Search.{found_either}
use Rattle.placing.specs.Placing.{place_refused}
use Rattle.placing.proofs.refusal.Goals as goal
use Rattle.placing.proofs.refusal.Goals.{then-has_pin-via-then-has_pin, then-has_pin-via-else-has_pin+then-has_pin-2}

pub returns-then-has_pin : goal.returns-then-has_pin
unfolding place_refused
returns-then-has_pin c =
    let e = found_either c.args.top.now c.args.bottom.now c.args.net in
    elim c.then-has_pin.branch [
      | then-has_pin-via-then-has_pin w ↦ grind (arith, nat_tests)
      | then-has_pin-via-else-has_pin+then-has_pin-2 w ↦ grind (arith, nat_tests)
    ]
