-- The listing of a channel: its refusal, or the text of its drawing, for which the layout and the text have room. Assumes nothing.
use Prim.Native.Nat.{ℕ, zero, suc, ◌+◌, ◌-◌, ◌*◌, ◌≤◌, ◌<◌}
use native.Mathlib.Omega.{arith}
use native.Mathlib.Decide.{dec_lt, ℕ_discrete}
use mathlib.Core.Logic.{⊎_elim}
use mathlib.Core.Path.{◌≡◌, refl, ap, sym, subst, ◌∙◌}
use mathlib.Core.List.{List}
use lib.ListN.{length, get_or, drop}
use Rattle.std.specs.Prelude.{Ok, Err}
use Rattle.grid.specs.declared.refusals.Refusal.{Refusal}
use Rattle.grid.specs.Refusals.{number}
use Rattle.grid.proofs.Numbers.{number_nonzero, refused_is, accepted_by}
use Rattle.grid.proofs.Answers.{accepted_old}
use Rattle.grid.specs.declared.Family.{Family}
use Rattle.grid.specs.declared.Family.TheVariants.{TwoPin, ThreePin, ManyPin}
use Rattle.grid.specs.Channel.{density, tracks, family, pins, rows_refused}
use Rattle.grid.proofs.Rows.{rows_fit, rows_short, rows_more, two_density, three_density, many-density}
use Rattle.grid.proofs.Counting.{at_below}
use Rattle.grid.proofs.Crossing.{density_few}
use Rattle.router.specs.declared.Figures.{Figures}
use Rattle.router.specs.Answers.{width, layout}
use Rattle.router.specs.Answers.{formula_length, figures, refused, answer, written}
use Rattle.router.proofs.Applied.{solved, layout-length, layout_fills, width_half, within_formula}
use Rattle.router.proofs.Answered.{passes, refuses, written_drawn, written_length}
use Rattle.listing.specs.Text.{drawing_text}
use Rattle.listing.specs.Listing.{channel_text}
use Rattle.record.specs.Record.{laid}
use Rattle.listing.specs.Working.{Lists}
use Rattle.record.proofs.Put.{counts_laid}
use Rattle.listing.proofs.Front.{drawn_front}
use Rattle.listing.proofs.Size.{drawn_size, figures_few}

-- THE ANSWERS
-- a refusal: its number, and the text as it was
pub refused_lists : (k : ℕ) (j : Refusal) (new old : List ℕ) → number j ≡ k → Lists k new old (Err j) old
refused_lists k j new old e = record {
  answer = refused_is k (length new) j e;
  text = sym (accepted_old k (laid new old) old (λ z. number_nonzero j (e ∙ z)));
  counts = (omega arith, refl);
}

-- a text that was put
pub put_lists : (k : ℕ) (new old : List ℕ) (e : ℕ) (now : List ℕ) → k ≡ 0 → length new ≤ length old → e ≡ length new → now ≡ laid new old → Lists k new old (Ok e) now
put_lists zero new old e now z h f g = record { answer = ap Ok f; text = g; counts = counts_laid e new old now h f g }
put_lists (suc k) new old e now z h f g = absurd (omega arith)

-- THE DRAWING
-- what the listing of a drawing asks: the figures and the slice that routing leaves
pub record Drawable (top bottom : List ℕ) (x : Figures) (slice : List ℕ) : Type 0 where
  pub long : x.width * (2 * x.tracks + 1) ≤ length slice
  pub few : x.tracks ≤ 127
  pub room : length (drawing_text x.density x.tracks x.width slice) ≤ 131072
  pub text : drawing_text x.density x.tracks x.width slice ≡ channel_text top bottom

module _ (top bottom : List ℕ) where
  -- whatever its family, a channel has 2d - 1 tracks at most
  tracks_most : tracks top bottom ≤ 2 * density top bottom - 1
  tracks_most = go (family top bottom) refl
    where
      go : (f : Family) → family top bottom ≡ f → tracks top bottom ≤ 2 * density top bottom - 1
      go TwoPin e = omega (arith, two_density top bottom e)
      go ThreePin e = omega (arith, three_density top bottom e)
      go ManyPin e = omega (arith, many-density top bottom e)

  module _ (ok : rows_refused top bottom 64 ≡ 0) where
    -- the rows are accepted
    accepted : rows_refused top bottom 256 ≡ 0
    accepted = rows_more top bottom 64 256 (omega arith) ok

    -- they have at most 64 columns
    short : length top ≤ 64
    short = rows_short top bottom 64 ok

    -- few tracks and columns, and entries for which the layout has room
    small : (tracks top bottom ≤ 127) × (width top bottom ≤ 127) × (formula_length (length top) (tracks top bottom) ≤ 32385)
    small = figures_few (length top) (density top bottom) (tracks top bottom) (width top bottom) short
        (density_few top bottom (rows_fit top bottom accepted).same) tracks_most (width_half top bottom accepted)

    -- the entries are numbers up to 256
    entries_few : (i : ℕ) → get_or (layout top bottom) i 0 < 1000
    entries_few i = go (ℕ_discrete (get_or (layout top bottom) i 0) 0) (dec_lt 256 (get_or (layout top bottom) i 0))
      where
        v : ℕ
        v = get_or (layout top bottom) i 0

        go : Dec (v ≡ 0) → Dec (256 < v) → v < 1000
        go (yes e) d = omega arith
        go (no n) (no l) = omega arith
        go (no n) (yes l) =
            ⊎_elim (λ (z : v ≡ 0). absurd (n z)) (λ (p : 0 < pins top bottom v). absurd (omega (arith, (rows_fit top bottom accepted).small v l)))
            ((solved top bottom accepted).wiring.nets i (at_below (layout top bottom) i v n refl))

    -- routing draws
    drawn_by_lem : (lent : ℕ) → 32385 ≡ lent → refused top bottom 64 lent ≡ 0
    drawn_by_lem lent l = passes top bottom 64 lent ok (omega (arith, within_formula top bottom accepted, small.2))

    -- and its drawing can be listed
    leaves : (old : List ℕ) → 32385 ≡ length old → Drawable top bottom (figures top bottom) (written top bottom 64 old)
    unfolding figures
    leaves old l =
        let p = drawn_by_lem (length old) l in
        let f : drawing_text (density top bottom) (tracks top bottom) (width top bottom) (written top bottom 64 old) ≡ channel_text top bottom =
        ap (λ z. drawing_text (density top bottom) (tracks top bottom) (width top bottom) z) (written_drawn top bottom 64 old p)
        ∙ drawn_front (layout top bottom) (drop (length (layout top bottom)) old) (density top bottom) (tracks top bottom) (width top bottom)
        (omega (arith, layout-length top bottom accepted)) in
        record {
          long = omega (arith, written_length top bottom 64 old p, layout-length top bottom accepted, layout_fills top bottom accepted, within_formula top bottom accepted, small.2);
          few = small.0;
          room =
              omega (
                arith,
                ap length f,
                drawn_size (layout top bottom) entries_few (density top bottom) (tracks top bottom) (width top bottom)
                    (omega (arith, density_few top bottom (rows_fit top bottom accepted).same, short)) small.0 small.1,
              );
          text = f;
        }

  -- routing refuses what the rows refuse
  rows_refused_lem : (lent : ℕ) → 32385 ≡ lent → refused top bottom 64 lent ≡ rows_refused top bottom 64
  unfolding refused
  rows_refused_lem lent l = go (rows_refused top bottom 64) refl
    where
      go : (k : ℕ) → rows_refused top bottom 64 ≡ k → refused top bottom 64 lent ≡ k
      go zero e = drawn_by_lem e lent l
      go (suc k) e = refuses top bottom 64 lent (suc k) e (omega arith)

  -- what it answers and leaves: a refusal of the rows
  pub channel_refused : (lent : ℕ) (j : Refusal) (text : List ℕ) → 32385 ≡ lent → number j ≡ refused top bottom 64 lent
      → Lists (rows_refused top bottom 64) (channel_text top bottom) text (Err j) text
  channel_refused lent j text l e = refused_lists (rows_refused top bottom 64) j (channel_text top bottom) text (e ∙ rows_refused_lem lent l)

  -- or a drawing of accepted rows
  pub channel_drawn : (old slice : List ℕ) (x : Figures) → 32385 ≡ length old → Ok x ≡ answer top bottom 64 (length old) → slice ≡ written top bottom 64 old
      → (rows_refused top bottom 64 ≡ 0) × Drawable top bottom x slice
  unfolding answer
  channel_drawn old slice x l e f =
      let (k, i) = accepted_by (refused top bottom 64 (length old)) (figures top bottom) x e in
      let a : rows_refused top bottom 64 ≡ 0 = sym (rows_refused_lem (length old) l) ∙ k in
      (a, subst (λ z. Drawable top bottom z slice) (sym i) (subst (λ z. Drawable top bottom (figures top bottom) z) (sym f) (leaves a old l)))
