-- One spelling of each channel. Assumes nothing.
use Prim.Native.Nat.{ℕ, ◌≤◌}
use mathlib.Core.Path.{◌≡◌, sym, ap, ◌∙◌}
use mathlib.Core.List.{List}
use native.Mathlib.Omega.{arith}
use lib.ListN.{length, length-map}
use Rattle.grid.specs.Refusals.{number_of}
use Rattle.grid.specs.Channel.{rows_refused}
use Rattle.grid.proofs.Rows.{rows_fit}
use Rattle.record.specs.Record.{record_read, top_row, bottom_row}
use Rattle.canonical.specs.Renaming.{new_number, new_top, new_bottom}
use Rattle.canonical.specs.Canonical.{answer, canonical, record_size}
use Rattle.canonical.proofs.FirstPins.{in_order_lem}
use Rattle.canonical.proofs.OnlyOrder.{only_order}
use Rattle.canonical.proofs.NewNumbers.{number_renames}
use Rattle.canonical.proofs.Answers.{answer-number, none_refused}
use Rattle.canonical.proofs.Theorems.{reads_back_lem, equal_bytes_lem, renamed_fit, written_again, bytes_in_front, slice_again, renamed_figures}
use Rattle.demands.specs.Spelling.{first_bytes, ReadsBack, Spelled, EqualBytes, OneSpelling}
use Rattle.demands.proofs.Tracks.{rows_accepted}

-- AN ACCEPTED CALL
module _ (top bottom old : List ℕ) (z : number_of (answer top bottom (length old)) ≡ 0) where
  -- its rows are accepted, and its slice is long enough
  let_through : (rows_refused top bottom 256 ≡ 0) × (record_size top bottom ≤ length old)
  let_through = none_refused top bottom (length old) (sym (answer-number top bottom (length old)) ∙ z)

  -- the record stands in front
  in_front_lem : first_bytes top bottom old ≡ canonical top bottom
  in_front_lem = bytes_in_front top bottom old let_through.0 let_through.1

  back : ReadsBack top bottom (first_bytes top bottom old)
  back =
      let (n, t, b) = reads_back_lem top bottom let_through.0 in
      record { columns = ap record_read in_front_lem ∙ n; tops = ap top_row in_front_lem ∙ t; bottoms = ap bottom_row in_front_lem ∙ b }

-- A CHANNEL whose rows are accepted
spelled : (top bottom : List ℕ) → rows_refused top bottom 256 ≡ 0 → Spelled top bottom
spelled top bottom ok =
    record {
      in_order = in_order_lem top bottom ok;
      only = only_order top bottom ok;
      renames = number_renames top bottom (rows_fit top bottom ok);
      reads_back = back top bottom;
      accepted = (rows_accepted (new_top top bottom) (new_bottom top bottom)).0 (renamed_fit top bottom ok);
      same_density = (renamed_figures top bottom ok).0;
      same_tracks = (renamed_figures top bottom ok).1;
      again = λ old z. slice_again top bottom old ok (let_through top bottom old z).1;
      elsewhere = λ old new z y.
          bytes_in_front (new_top top bottom) (new_bottom top bottom) new (renamed_fit top bottom ok)
          (omega (arith, length-map top (new_number top bottom), (let_through top bottom new y).1))
          ∙ written_again top bottom ok
          ∙ sym (in_front_lem top bottom old z);
    }

-- TWO CHANNELS
equal : (top bottom old top' bottom' old' : List ℕ) → number_of (answer top bottom (length old)) ≡ 0 → number_of (answer top' bottom' (length old')) ≡ 0
    → EqualBytes top bottom old top' bottom' old'
equal top bottom old top' bottom' old' z z' =
    let e = in_front_lem top bottom old z in
    let e' = in_front_lem top' bottom' old' z' in
    let b = equal_bytes_lem top bottom top' bottom' (let_through top bottom old z).0 (let_through top' bottom' old' z').0 in
    (λ h. b.0 (sym e ∙ h ∙ e'), λ r. e ∙ b.1 r ∙ sym e')

-- ALL OF THEM
pub one_spelling : OneSpelling
one_spelling = record { spelled = λ top bottom l. spelled top bottom ((rows_accepted top bottom).1 l); equal_bytes = equal }
