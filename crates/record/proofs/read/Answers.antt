use Prim.Native.Nat.{ℕ, ◌+◌, ◌*◌, ◌≤◌}
use native.Mathlib.Omega.{arith}
use mathlib.Core.List.{List}
use mathlib.Core.Path.{◌≡◌, ◌∙◌}
use lib.ListN.{length, length-append, length-drop}
use lib.Seq.{length-take-le}
use Rattle.record.specs.Record.{record_refused}
use Rattle.record.specs.Record as record-specs
use Rattle.grid.proofs.Numbers.{passed_on}
use Rattle.record.proofs.Refusals.{whole_record}
use Rattle.record.proofs.Rows.{read_refused, read_channel, row_laid}
use Rattle.record.proofs.read.Goals as goal

-- a record that is not refused has n and two rows of n, at most 256
rows : (s : List ℕ) (w n : ℕ) → 0 ≡ record_refused s → w ≡ record-specs.word s 4 → n ≡ w → (n ≤ 256) × (length s ≡ 6 + 4 * n)
rows s w n e f g = let r = whole_record s e in (omega (arith, r.short, r.exact), omega (arith, r.exact))

pub returns-in_err-refusal : goal.returns-in_err-refusal
returns-in_err-refusal c =
    let a = c.args in
    let r = c.in_err-refusal.field-0.0 in
    rw (passed_on _ r c.from_residual.ensures.1) (read_refused a.bytes.now r a.top.now a.bottom.now c.in_err-refusal.ensures)

pub word-requires : goal.word-requires
word-requires c = omega (arith, (whole_record c.args.bytes.now c.in_ok-refusal.ensures).long)

pub slice_bounds-read_row-end : goal.slice_bounds-read_row-end
slice_bounds-read_row-end c = omega (arith, rows _ _ _ c.in_ok-refusal.ensures c.word.ensures c.from-n.ensures)

pub read_row-requires : goal.read_row-requires
read_row-requires c = omega (arith, rows _ _ _ c.in_ok-refusal.ensures c.word.ensures c.from-n.ensures, length-take-le {A = ℕ})

pub read_row-requires-2 : goal.read_row-requires-2
read_row-requires-2 c = omega (arith, rows _ _ _ c.in_ok-refusal.ensures c.word.ensures c.from-n.ensures, length-take-le {A = ℕ})

pub returns : goal.returns
returns c =
    let r = rows _ _ _ c.in_ok-refusal.ensures c.word.ensures c.from-n.ensures in
    read_channel _ _ _ _ _ _ c.in_ok-refusal.ensures (c.from-n.ensures ∙ c.word.ensures)
    (row_laid _ _ _ _ _ c.read_row.ensures (omega (arith, r.0)))
    (row_laid _ _ _ _ _ c.read_row-2.ensures (omega (arith, r.0)))
    (omega (arith, r.0, length-append {A = ℕ}, length-drop {A = ℕ}, length-take-le {A = ℕ}))
    (omega (arith, r.0, length-append {A = ℕ}, length-drop {A = ℕ}, length-take-le {A = ℕ}))
