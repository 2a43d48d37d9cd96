-- `segment_at` meets its contract.
use borrow.Author.Tests.{lt-ltb, le-ltb}
use Rattle.grid.specs.Segments.{segment}
use Rattle.router.proofs.writer.segment_at.Goals as goal

pub returns-then-k-w : goal.returns-then-k-w
unfolding segment
returns-then-k-w c = rw (lt-ltb _ _ c.if-k-w.true)

pub returns-then-k-w-2 : goal.returns-then-k-w-2
unfolding segment
returns-then-k-w-2 c = rw (le-ltb _ _ c.if-k-w.false, lt-ltb _ _ c.if-k-w-2.true)

pub returns-then-k-w-3 : goal.returns-then-k-w-3
unfolding segment
returns-then-k-w-3 c = rw (le-ltb _ _ c.if-k-w.false, le-ltb _ _ c.if-k-w-2.false, lt-ltb _ _ c.if-k-w-3.true)

pub returns-then-k-w-4 : goal.returns-then-k-w-4
unfolding segment
returns-then-k-w-4 c =
    rw (le-ltb _ _ c.if-k-w.false, le-ltb _ _ c.if-k-w-2.false, le-ltb _ _ c.if-k-w-3.false, lt-ltb _ _ c.if-k-w-4.true)

pub returns-else-k-w-4 : goal.returns-else-k-w-4
unfolding segment
returns-else-k-w-4 c =
    rw (le-ltb _ _ c.if-k-w.false, le-ltb _ _ c.if-k-w-2.false, le-ltb _ _ c.if-k-w-3.false, le-ltb _ _ c.if-k-w-4.false)
