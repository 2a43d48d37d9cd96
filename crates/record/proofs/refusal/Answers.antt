use native.Mathlib.Omega.{arith}
use mathlib.Core.Path.{◌∙◌}
use Rattle.record.proofs.Refusals.{too_short, too_long, other_length, other_kind, no_columns, other_body, whole}
use Rattle.record.proofs.refusal.Goals as goal

pub returns-then-size-lt4 : goal.returns-then-size-lt4
returns-then-size-lt4 c = too_short _ c.if-size-lt4.true

pub returns-then-size-gt1030 : goal.returns-then-size-gt1030
returns-then-size-gt1030 c = too_long _ (omega arith) c.if-size-gt1030.true

pub returns-then-from-size : goal.returns-then-from-size
returns-then-from-size c = other_length _ (omega arith) (omega arith) _ (c.from.ensures ∙ c.word.ensures) c.if-from-size.true

pub returns-then-word-ne1 : goal.returns-then-word-ne1
returns-then-word-ne1 c =
    other_kind _ (omega arith) (omega arith) _ (c.from.ensures ∙ c.word.ensures) c.if-from-size.false _ c.word-2.ensures
    c.if-word-ne1.true

pub returns-then-size-lt2 : goal.returns-then-size-lt2
returns-then-size-lt2 c =
    no_columns _ (omega arith) (omega arith) _ (c.from.ensures ∙ c.word.ensures) c.if-from-size.false _
    c.word-2.ensures c.if-word-ne1.false c.if-size-lt2.true

pub returns-then-size-from : goal.returns-then-size-from
returns-then-size-from c =
    other_body _ (omega arith) (omega arith) _ (c.from.ensures ∙ c.word.ensures)
    c.if-from-size.false _ c.word-2.ensures
    c.if-word-ne1.false c.if-size-lt2.false _ (c.from-2.ensures ∙ c.word-3.ensures) c.if-size-from.true

pub returns : goal.returns
returns c =
    whole _ (omega arith) (omega arith) _ (c.from.ensures ∙ c.word.ensures)
    c.if-from-size.false _ c.word-2.ensures
    c.if-word-ne1.false c.if-size-lt2.false _ (c.from-2.ensures ∙ c.word-3.ensures) c.if-size-from.false
