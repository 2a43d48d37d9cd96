-- `canonical::number_pin` meets its contract: the net keeps its number, or has the next one.
use native.Mathlib.Omega.{arith}
use Rattle.canonical.proofs.Numbering.{pin_kept, pin_new}
use Rattle.canonical.proofs.number_pin.Goals as goal
use Rattle.canonical.proofs.number_pin.Goals.{then-old-eq0, else-old-eq0}
use Rattle.canonical.proofs.number_pin.Goals.{then-old-eq0-2, else-old-eq0-2}

pub returns : goal.returns
returns c = λ l h.
    elim c.if-old-eq0.branch [
      | then-old-eq0 w ↦
          elim c.if-old-eq0-2.branch [
            | then-old-eq0-2 v ↦ rw (v.numbers-is, w.last-is, c.from-net.ensures) (pin_new l _ _ h _ c.requires.0 (rw c.from-net.ensures at w.if-old-eq0.true))
            | else-old-eq0-2 v ↦ absurd (omega (arith, w.if-old-eq0.true, v.if-old-eq0-2.false))
          ]
      | else-old-eq0 w ↦
          elim c.if-old-eq0-2.branch [
            | then-old-eq0-2 v ↦ absurd (omega (arith, w.if-old-eq0.false, v.if-old-eq0-2.true))
            | else-old-eq0-2 v ↦ rw (v.numbers-is, w.last-is, c.from-net.ensures) (pin_kept l _ _ h _ c.requires.0 (rw c.from-net.ensures at w.if-old-eq0.false))
          ]
    ]
