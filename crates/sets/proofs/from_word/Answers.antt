-- `sets::from_word` meets its contract. The invariant: no member from the start of word i up to the start of word w.
use native.Mathlib.Omega.{arith}
use borrow.Author.Rules.{rules}
use Rattle.sets.proofs.Members.{clear_more, word_none, word_some, lower}
use Rattle.sets.proofs.from_word.Goals as goal

pub returns-then-x-ne0 : goal.returns-then-x-ne0
returns-then-x-ne0 c =
    lower (omega arith) c.loop-w.invariant (word_some c.args.s.now c.loop-w.w (search rules) (omega arith) (omega arith))

pub loop-w-preserved : goal.loop-w-preserved
loop-w-preserved c = clear_more c.args.s.now c.loop-w.invariant (word_none c.args.s.now c.loop-w.w c.if-x-ne0.false)
