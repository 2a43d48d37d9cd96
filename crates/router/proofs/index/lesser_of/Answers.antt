-- `lesser_of` meets its contract.
use Rattle.router.proofs.Laws.Arrays
use mathlib.Core.Path.{sym, ◌∙◌}
use Rattle.router.proofs.index.lesser_of.Goals as goal

pub returns-then-x-eq0 : goal.returns-then-x-eq0
returns-then-x-eq0 c = sym (Arrays.lesser_none_left _ _ c.if-x-eq0.true)

pub returns-then-y-eq0 : goal.returns-then-y-eq0
returns-then-y-eq0 c = sym (Arrays.lesser_none_right _ _ c.if-y-eq0.true)

pub returns : goal.returns
returns c = c.min.ensures ∙ sym (Arrays.lesser_both _ _ c.if-x-eq0.false c.if-y-eq0.false)
