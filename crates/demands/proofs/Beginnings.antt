-- Channels of two-pin nets that begin alike are drawn alike. Assumes nothing.
use Prim.Native.Nat.{ℕ, ◌+◌, ◌*◌, ◌≤◌}
use mathlib.Core.Path.{◌≡◌, sym, ap, subst, ◌∙◌}
use mathlib.Core.List.{List}
use native.Mathlib.Omega.{arith}
use native.Mathlib.Nat.{mul-le-mul_right}
use lib.ListN.{length, drop, length-take}
use lib.Seq.{take-append-le}
use Rattle.grid.specs.Refusals.{number_of}
use Rattle.grid.specs.declared.Family.TheVariants.{TwoPin}
use Rattle.grid.specs.Channel.{family, tracks, rows_refused}
use Rattle.grid.proofs.Rows.{rows_fit, two_density}
use Rattle.sweep.specs.Drawing as Drawing
use Rattle.sweep.proofs.Drawing.Beginning.{TwoPinOn, layout_same}
use Rattle.router.specs.Answers.{layout}
use Rattle.router.specs.Answers as routing
use Rattle.router.proofs.Applied.{layout-length, width-least}
use Rattle.router.proofs.Answered.{answer-number, written_drawn}
use Rattle.demands.specs.Beginnings.{TwoPinChannel, BeginAlike, first_columns, DrawnAlike, SameBeginning}
use Rattle.demands.proofs.Families.{of_two, family_of}
use Rattle.demands.proofs.Tracks.{rows_accepted}

-- accepted rows of two-pin nets are such a channel
pub two_pin_channel : (top bottom : List ℕ) → rows_refused top bottom 256 ≡ 0 → family top bottom ≡ TwoPin → TwoPinChannel top bottom
two_pin_channel top bottom ok two = record { accepted = (rows_accepted top bottom).0 ok; pairs = of_two top bottom (rows_fit top bottom ok) two }

-- ONE CHANNEL
module _ (top bottom : List ℕ) (p : TwoPinChannel top bottom) where
  pub channel_accepted : rows_refused top bottom 256 ≡ 0
  channel_accepted = (rows_accepted top bottom).1 p.accepted

  pub channel_two_pin : family top bottom ≡ TwoPin
  channel_two_pin = family_of top bottom (rows_fit top bottom channel_accepted) TwoPin p.pairs

  on_tracks_lem : TwoPinOn (tracks top bottom) top bottom
  on_tracks_lem = record { fit = rows_fit top bottom channel_accepted; two = channel_two_pin; dense = omega (arith, two_density top bottom channel_two_pin) }

  module _ (k : ℕ) (q : k ≤ length top) where
    -- the layout has the first k columns
    enough_entries : k * (2 * tracks top bottom + 1) ≤ length (layout top bottom)
    enough_entries =
        let each = 2 * tracks top bottom + 1 in
        omega (arith, layout-length top bottom channel_accepted, mul-le-mul_right {m = k} {n = routing.width top bottom} each (omega (arith, width-least top bottom channel_accepted)))

    -- so a slice has them, after a call that draws
    written_columns : (most : ℕ) (old : List ℕ) → number_of (routing.answer top bottom most (length old)) ≡ 0
        → first_columns k (tracks top bottom) (routing.written top bottom most old) ≡ first_columns k (tracks top bottom) (layout top bottom)
    written_columns most old e =
        ap (first_columns k (tracks top bottom)) (written_drawn top bottom most old (sym (answer-number top bottom most (length old)) ∙ e))
        ∙ take-append-le (k * (2 * tracks top bottom + 1)) (layout top bottom) (drop (length (layout top bottom)) old) enough_entries

-- TWO CHANNELS
module _ (top bottom top' bottom' : List ℕ) (k : ℕ) (a : BeginAlike top bottom top' bottom' k) where
  -- equal density is an equal number of tracks
  same_tracks_lem : tracks top bottom ≡ tracks top' bottom'
  same_tracks_lem = two_density top bottom (channel_two_pin top bottom a.one) ∙ a.dense ∙ sym (two_density top' bottom' (channel_two_pin top' bottom' a.other))

  same_columns : first_columns k (tracks top bottom) (layout top bottom) ≡ first_columns k (tracks top' bottom') (layout top' bottom')
  same_columns =
      layout_same (tracks top bottom) top bottom top' bottom' (on_tracks_lem top bottom a.one)
      (subst (λ (t : ℕ). TwoPinOn t top' bottom') (sym same_tracks_lem) (on_tracks_lem top' bottom' a.other)) k (omega (arith, a.within)) (omega (arith, a.within))
      a.tops a.bottoms
      ∙ ap (λ (t : ℕ). first_columns k t (Drawing.layout t top' bottom')) same_tracks_lem

  drawn_alike : DrawnAlike top bottom top' bottom' k
  drawn_alike = record {
    same_tracks = same_tracks_lem;
    columns = same_columns;
    all = length-take (k * (2 * tracks top bottom + 1)) (layout top bottom) ∙ omega (arith, enough_entries top bottom a.one k (omega (arith, a.within)));
    slices = λ most most' old old' e e'.
        written_columns top bottom a.one k (omega (arith, a.within)) most old e
        ∙ same_columns
        ∙ sym (written_columns top' bottom' a.other k (omega (arith, a.within)) most' old' e');
  }

-- ALL OF THEM
pub same_beginning : SameBeginning
same_beginning = drawn_alike
