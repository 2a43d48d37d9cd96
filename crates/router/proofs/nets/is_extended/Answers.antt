-- `is_extended` meets its contract.
use borrow.Author.Tests.{lt-ltb, le-ltb}
use Rattle.router.proofs.nets.is_extended.Goals as goal

pub returns-then-c-last : goal.returns-then-c-last
returns-then-c-last c = rw (lt-ltb _ _ c.if-c-last.true)

pub returns : goal.returns
returns c = rw (le-ltb _ _ c.if-c-last.false)
