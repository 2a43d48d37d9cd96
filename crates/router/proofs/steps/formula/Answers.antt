-- `formula` meets its contract: the test passes for no channel's numbers.
use Rattle.router.proofs.Laws.Standing.{neither_over, one_over}
use Rattle.router.proofs.steps.formula.Goals as goal

pub returns-then-n-t : goal.returns-then-n-t
returns-then-n-t c p q = absurd (one_over 256 511 c.args.n c.args.t c.if-n-t.true p q)

pub formula_length-requires : goal.formula_length-requires
formula_length-requires c = neither_over 256 511 c.args.n c.args.t c.if-n-t.false
