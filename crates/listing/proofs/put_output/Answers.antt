-- `listing::put_output` meets its contract: the listing's text, or the line of its number.
use mathlib.Core.Path.{refl, sym, ap, ◌∙◌}
use mathlib.Core.Logic.{◌≢◌}
use mathlib.Core.List.{List}
use Prim.Native.Nat.{ℕ}
use lib.ListN.{length}
use Rattle.grid.specs.Refusals.{number}
use Rattle.grid.proofs.Numbers.{number_nonzero}
use Rattle.grid.proofs.Answers.{accepted_old}
use Rattle.record.specs.Record.{laid}
use Rattle.listing.specs.Text.{refusal}
use Rattle.listing.proofs.Records.{output_text, output-line}
use Rattle.listing.proofs.put_output.Goals as goal

pub returns-in-Ok : goal.returns-in-Ok
returns-in-Ok c =
    let e = c.in-Ok.ensures in
    let t = output_text c.args.bytes.now 0 e.number refl in
    record { length = e.length ∙ ap length t; text = e.text ∙ ap (λ (l : List ℕ). laid l c.args.text.now) t; counts = e.counts }

pub returns-in-Err : goal.returns-in-Err
returns-in-Err c =
    let e = c.in-Err.ensures in
    let k : ℕ = c.from.result in
    let f = c.from.ensures in
    let n : k ≢ 0 = λ z. number_nonzero c.in-Err.reason (sym f ∙ z) in
    let p = c.put_refusal_line.ensures in
    let t = output-line c.args.bytes.now k (f ∙ e.number) n in
    let o = e.text ∙ accepted_old (number c.in-Err.reason) _ _ (number_nonzero c.in-Err.reason) in
    record {
      length = p.length ∙ ap length t;
      text = p.text ∙ ap (λ (l : List ℕ). laid (refusal k) l) o ∙ ap (λ (l : List ℕ). laid l c.args.text.now) t;
      counts = p.counts;
    }
