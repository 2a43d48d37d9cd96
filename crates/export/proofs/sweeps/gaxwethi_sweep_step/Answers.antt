-- `gaxwethi_sweep_step` meets its contract: the number and figures of what `stepwise::step` answers.
use Rattle.std.proofs.Common.{rules}
use Rattle.export.proofs.Driven.{step_told}
use Rattle.export.proofs.sweeps.gaxwethi_sweep_step.Goals as goal

pub returns-clause-channel : goal.returns-clause-channel
returns-clause-channel c = λ top bottom t n s. step_told c.step-answer.result _ (search rules) (c.step-answer.ensures.channel top bottom t n s)
