-- `tracks_of` meets its contract.
use mathlib.Core.Path.{sym, ap, ◌∙◌}
use Rattle.grid.specs.declared.Family.{Family}
use Rattle.grid.specs.Channel.{tracks_of}
use Rattle.router.proofs.tracks_of.Goals as goal

pub returns-in-TwoPin : goal.returns-in-TwoPin
returns-in-TwoPin c = sym (ap (λ (f : Family). tracks_of f c.args.d) c.in-TwoPin.is)

pub returns-in-ThreePin : goal.returns-in-ThreePin
returns-in-ThreePin c = sym (ap (λ (f : Family). tracks_of f c.args.d) c.in-ThreePin.is)

pub returns-in-ManyPin : goal.returns-in-ManyPin
returns-in-ManyPin c = c.saturating_sub.ensures ∙ sym (ap (λ (f : Family). tracks_of f c.args.d) c.in-ManyPin.is)
