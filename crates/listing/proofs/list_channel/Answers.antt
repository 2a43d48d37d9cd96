-- `listing::list_channel` meets its contract: the rows' refusal, else the text of the drawing that routing leaves.
use Prim.Native.Nat.{ℕ}
use native.Mathlib.Omega.{arith}
use mathlib.Core.Path.{refl, sym, ap, ◌∙◌}
use lib.ListN.{length, replicate}
use Rattle.std.proofs.lemmas.List.{length-replicate}
use Rattle.grid.proofs.Numbers.{passed_on}
use Rattle.router.specs.Answers.{refused}
use Rattle.listing.proofs.Channels.{channel_refused, channel_drawn, put_lists}
use Rattle.listing.proofs.list_channel.Goals as goal

-- what routing leaves can be listed
pub put_listing-requires : goal.put_listing-requires
put_listing-requires c =
    let d = channel_drawn _ _ (replicate 32385 0) _ _ (sym (length-replicate {A = ℕ} 32385 0)) c.in_ok-drawn.ensures.answer c.in_ok-drawn.ensures.drawing in
    record {
      t_in_bounds = d.1.long;
      t_bound = d.1.few;
      room = omega (arith, d.1.room, c.requires);
    }

pub returns : goal.returns
returns c =
    let d = channel_drawn _ _ (replicate 32385 0) _ _ (sym (length-replicate {A = ℕ} 32385 0)) c.in_ok-drawn.ensures.answer c.in_ok-drawn.ensures.drawing in
    put_lists _ _ _ _ _ d.0 (omega (arith, d.1.room, ap length d.1.text, c.requires)) (c.put_listing.ensures.length ∙ ap length d.1.text)
    (rw d.1.text at c.put_listing.ensures.text)

pub returns-in_err-drawn : goal.returns-in_err-drawn
returns-in_err-drawn c =
    let a = c.args in
    let r = c.in_err-drawn.field-0.0 in
    rw (passed_on _ r c.from_residual.ensures.1)
    (channel_refused a.top.now a.bottom.now 32385 r a.text.now refl (c.in_err-drawn.ensures.number ∙ ap (refused a.top.now a.bottom.now 64) (length-replicate {A = ℕ} 32385 0)))
