-- The listing of a record: its refusal, or the listing of its channel. Assumes nothing.
use Prim.Native.Nat.{ℕ, zero, suc, ◌≤◌}
use mathlib.Core.Logic.{◌≢◌}
use mathlib.Core.Path.{◌≡◌, refl, ap, sym, subst, ◌∙◌}
use mathlib.Core.List.{List}
use lib.ListN.{take, length}
use Rattle.grid.specs.Channel.{rows_refused}
use Rattle.grid.specs.Refusals.{first_refusal, if_accepted}
use Rattle.std.specs.Prelude.{Result, Ok, Err}
use Rattle.grid.specs.declared.refusals.Refusal.{Refusal}
use Rattle.grid.specs.Refusals.{number, number_of}
use Rattle.grid.proofs.Numbers.{first_within, number_nonzero, number_answer, figures_answer}
use Rattle.grid.proofs.Answers.{first_here, rows_within}
use Rattle.record.specs.Record.{record_refused, record_read, top_row, bottom_row, laid}
use Rattle.record.proofs.Refusals.{record_within}
use Rattle.record.proofs.Rows.{rows_taken}
use Rattle.listing.specs.Text.{refusal}
use Rattle.listing.specs.Listing.{length_of, channel_text, refused, text_of, listed, output}
use Rattle.listing.specs.Working.{Lists}
use Rattle.listing.proofs.Channels.{refused_lists}

module _ (s : List ℕ) where
  -- the number of a record whose own number is k
  refused_by : (k : ℕ) → record_refused s ≡ k → first_refusal k (rows_refused (top_row s) (bottom_row s) 64) ≡ refused s
  unfolding refused
  refused_by k e = ap (λ z. first_refusal z (rows_refused (top_row s) (bottom_row s) 64)) (sym e)

  -- a channel: the listing of the rows that a caller takes of the arrays
  pub channel_lists : (n : ℕ) (top top' bottom bottom' old : List ℕ) (a : Result ℕ Refusal) (now : List ℕ)
      → Ok n ≡ record_read s → 0 ≡ record_refused s → top' ≡ laid (top_row s) top → bottom' ≡ laid (bottom_row s) bottom
      → Lists (rows_refused (take n top') (take n bottom') 64) (channel_text (take n top') (take n bottom')) old a now
      → Lists (refused s) (text_of s) old a now
  unfolding text_of
  channel_lists n top top' bottom bottom' old a now d e g h l =
      let p = rows_taken s n top bottom d in
      let x : take n top' ≡ top_row s = ap (take n) g ∙ p.0 in
      let y : take n bottom' ≡ bottom_row s = ap (take n) h ∙ p.1 in
      let m = subst (λ z. Lists (rows_refused (top_row s) z 64) (channel_text (top_row s) z) old a now) y
      (subst (λ z. Lists (rows_refused z (take n bottom') 64) (channel_text z (take n bottom')) old a now) x l) in
      subst (λ k. Lists k (text_of s) old a now) (refused_by 0 (sym e)) m

  -- a refusal: its number
  pub refused_lists_record : (r : Refusal) (old : List ℕ) → number r ≡ record_refused s → Lists (refused s) (text_of s) old (Err r) old
  refused_lists_record r old e =
      refused_lists (refused s) r (text_of s) old
      (sym (first_here (number r) (rows_refused (top_row s) (bottom_row s) 64) (number_nonzero r)) ∙ refused_by (number r) (sym e))

  -- THE NUMBER AND THE LENGTH of the answer
  numbers_within : refused s ≤ 24
  unfolding refused
  numbers_within = first_within _ _ (record_within s) (rows_within (top_row s) (bottom_row s) 64)

  pub listed-number : number_of (listed s) ≡ refused s
  unfolding listed
  listed-number = number_answer _ _ numbers_within

  pub listed-length : length_of (listed s) ≡ if_accepted (refused s) (length (text_of s)) 0
  unfolding listed
  listed-length = figures_answer 0 (refused s) (length (text_of s))

  -- WHAT THE CALL PROMISES
  pub record Promise (old : List ℕ) (r : Result ℕ Refusal) (now : List ℕ) : Type 0 where
    pub answer : r ≡ listed s
    pub number : number_of r ≡ refused s
    pub size : length_of r ≡ if_accepted (number_of r) (length (text_of s)) 0
    pub text : now ≡ if_accepted (number_of r) (laid (text_of s) old) old

  pub promise : (old : List ℕ) (r : Result ℕ Refusal) (now : List ℕ) → Lists (refused s) (text_of s) old r now → Promise old r now
  unfolding listed
  promise old r now l =
      let e : r ≡ listed s = l.answer in
      let n : number_of r ≡ refused s = ap number_of e ∙ listed-number in
      record {
        answer = e;
        number = n;
        size = ap length_of e ∙ listed-length ∙ ap (λ k. if_accepted k (length (text_of s)) 0) (sym n);
        text = l.text ∙ ap (λ k. if_accepted k (laid (text_of s) old) old) (sym n);
      }

  -- WHAT `knee` WRITES
  -- the text where the number is 0
  pub output_text : (k : ℕ) → k ≡ refused s → k ≡ 0 → text_of s ≡ output s
  unfolding output
  output_text k e z = ap (λ j. if_accepted j (text_of s) (refusal j)) (sym z ∙ e)

  -- and else the line of the number
  pub output-line : (k : ℕ) → k ≡ refused s → k ≢ 0 → refusal k ≡ output s
  unfolding output
  output-line zero e n = absurd (n refl)
  output-line (suc k) e n = ap (λ j. if_accepted j (text_of s) (refusal j)) e
