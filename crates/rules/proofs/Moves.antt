-- Moves by their actions.
use Prim.Native.Nat.{ℕ}
use mathlib.Core.Path.{◌≡◌, ap, ◌∙◌}
use Rattle.sweep.specs.declared.Action.{Action}
use Rattle.sweep.specs.declared.Move.{Move}
use Rattle.sweep.specs.ThreePin.{pairing}

-- a move whose action is known
pub moves : {x y : Action} {d s : ℕ} {r : Move} → r ≡ pairing x d s → x ≡ y → r ≡ pairing y d s
moves {x} {y} {d} {s} p q = p ∙ ap (λ (z : Action). pairing z d s) q
