-- Arrays that stand for a channel of two-pin nets: what the sweep goes by, and how one column more leaves them.
use Prim.Native.Nat.{ℕ, ◌+◌, ◌≤◌, ◌<◌}
use mathlib.Core.Path.{◌≡◌, refl, sym, ap, ◌∙◌}
use mathlib.Core.Bool.{Bool, true, false, ◌||◌}
use mathlib.Core.List.{List}
use native.Mathlib.Omega.{arith}
use lib.Dec.{ltb}
use lib.ListN.{length, take, get_or}
use Rattle.grid.specs.declared.Family.TheVariants.{TwoPin}
use Rattle.grid.specs.Channel.{density, family, rows_refused}
use Rattle.grid.specs.Nets.{first_column, last_column, table}
use Rattle.grid.specs.Places.{padded}
use Rattle.grid.proofs.Tests.{not_both, or_false, ltb-false, le-ltb}
use Rattle.grid.proofs.Places.{padded_at}
use Rattle.grid.proofs.Rows.{RowsFit, rows_fit}
use Rattle.sweep.specs.Drawing.{width}
use Rattle.sweep.proofs.Drawing.Past.{width-least}
use Rattle.sweep.proofs.Gaps.Held.{Enough, two_enough}
use Rattle.sweep.proofs.Solved.{width_most}
use Rattle.router.specs.Working.{Reads, Ready, FitsFrom, Marked, AtGap, no_nets}
use Rattle.router.specs.State.{Standing, Begun}
use Rattle.router.proofs.Laws.Calls.{ready}
use Rattle.router.proofs.Laws.Begin.{begins}
use Rattle.router.proofs.Laws.Past.{fits_anywhere}
use Rattle.router.proofs.Laws.Late.{keeps_late}

-- neither of two numbers is over its bound where a test for that fails
pub neither_over : (m n x y : ℕ) → (ltb m x || ltb n y) ≡ false → (x ≤ m) × (y ≤ n)
neither_over m n x y e =
    let k = or_false (ltb m x) (ltb n y) e in
    (ltb-false m x k.0, ltb-false n y k.1)

-- and one is where it passes
pub one_over : (m n x y : ℕ) → (ltb m x || ltb n y) ≡ true → x ≤ m → y ≤ n → ⊥
one_over m n x y e p q =
    not_both e (ap (λ (z : Bool). z || ltb n y) (le-ltb m x p) ∙ le-ltb n y q)

-- a row in 256 places reads as the row itself
padded_reads : (row l : List ℕ) → row ≡ padded l → Reads row l
padded_reads row l e c = ap (λ (z : List ℕ). get_or z c 0) e ∙ padded_at l c

-- wide nets are not kept where all nets have two pins
any_wide : {last number : List ℕ} {c : ℕ} {s w : List ℕ} → Marked last number c s w TwoPin → (w' : List ℕ) → Marked last number c s w' TwoPin
any_wide m w' v = record { extended = (m v).extended; wide = λ e. absurd (not_both refl e) }

module _ {tp bt : List ℕ} {t c : ℕ} {up lo first last a f low high number s : List ℕ} (S : Standing tp bt t c up lo first last a f low high number s) where
  -- what the rows are
  pub standing_fit : RowsFit tp bt
  standing_fit = rows_fit tp bt S.accepted

  -- t tracks are enough
  pub standing_enough : Enough t tp bt
  standing_enough = two_enough t tp bt S.pairs S.dense

  -- what the sweep goes by
  pub standing_ready : Ready tp bt first last t TwoPin
  standing_ready = ready tp bt S.accepted (omega (arith, S.few)) (sym S.pairs) S.firsts S.lasts

  -- the width is small
  pub standing_width : width t tp bt ≤ 384
  standing_width = omega (arith, width_most t tp bt standing_fit standing_enough, standing_ready.most, S.few)

  -- what each column does fits its gap
  pub standing_fits : (b : ℕ) → FitsFrom t tp bt c b
  standing_fits b i p q = fits_anywhere t tp bt standing_fit standing_enough i

  -- the rows read as the channel's
  pub standing_tops : Reads up tp
  standing_tops = padded_reads up tp S.tops

  pub standing_bottoms : Reads lo bt
  standing_bottoms = padded_reads lo bt S.bottoms

  -- the arrays hold gap c of the sweep, with any wide nets, mates and unpaired nets: the sweep of two-pin nets keeps none of these
  pub standing_at_gap : (w mates l : List ℕ) → AtGap tp bt last t TwoPin c a f low high number s w mates l
  standing_at_gap w mates l = record {
    keeps = S.keeps w;
    mated = record { is = λ e. absurd (not_both e refl); small = λ e. absurd (not_both e refl); lone = λ e. absurd (not_both e refl) };
  }

  -- AND ARRAYS THAT HOLD THE NEXT GAP stand for the channel with one column more
  pub standing_on : {a' f' low' high' number' s' w mates l : List ℕ} → c < width t tp bt
      → AtGap tp bt last t TwoPin (c + 1) a' f' low' high' number' s' w mates l → Standing tp bt t (c + 1) up lo first last a' f' low' high' number' s'
  standing_on h g = record {
    accepted = S.accepted;
    pairs = S.pairs;
    dense = S.dense;
    few = S.few;
    within = omega arith;
    tops = S.tops;
    bottoms = S.bottoms;
    firsts = S.firsts;
    lasts = S.lasts;
    keeps = λ v. record { holds = g.keeps.holds; marked = any_wide g.keeps.marked v };
  }

-- the same of arrays that are equal to those
pub standing_as : {tp bt : List ℕ} {t c : ℕ} {up lo first last a f low high number s a' f' low' high' number' s' : List ℕ} → Standing tp bt t c up lo first last a f low high number s
    → a' ≡ a → f' ≡ f → low' ≡ low → high' ≡ high → number' ≡ number → s' ≡ s → Standing tp bt t c up lo first last a' f' low' high' number' s'
standing_as S ea ef el eh en es = rw (ea, ef, el, eh, en, es) S

-- AS THE SWEEP BEGINS the arrays stand for a channel with no column drawn
pub standing_begins : {tp bt : List ℕ} {t : ℕ} {up lo first last a f low high number s : List ℕ} → rows_refused tp bt 256 ≡ 0 → family tp bt ≡ TwoPin
    → density tp bt ≤ t → t ≤ 256 → up ≡ padded tp → lo ≡ padded bt → first ≡ table (first_column tp bt) → last ≡ table (last_column tp bt)
    → Begun t a f low high number s → Standing tp bt t 0 up lo first last a f low high number s
standing_begins {tp} {bt} {t} {up} {lo} {first} {last} {a} {f} {low} {high} {number} {s} ok two dense few eu el ef es b =
    let g = begins tp bt last t TwoPin a f low high number s s no_nets s (omega arith) b.tracks b.frees b.lows b.highs b.numbers
    b.none b.none refl b.none in
    record {
      accepted = ok;
      pairs = two;
      dense = dense;
      few = few;
      within = omega arith;
      tops = eu;
      bottoms = el;
      firsts = ef;
      lasts = es;
      keeps = λ w. record { holds = g.keeps.holds; marked = any_wide g.keeps.marked w };
    }

-- WITH OTHER COLUMNS TO COME the arrays of the gap stand for the channel with those
pub standing_late : {tp bt : List ℕ} {t c : ℕ} {up lo first last a f low high number s : List ℕ} (tp' bt' up' lo' first' last' : List ℕ)
    → Standing tp bt t c up lo first last a f low high number s → c ≤ length tp → c ≤ length tp' → take c tp ≡ take c tp' → take c bt ≡ take c bt'
    → rows_refused tp' bt' 256 ≡ 0 → family tp' bt' ≡ TwoPin → density tp' bt' ≤ t
    → up' ≡ padded tp' → lo' ≡ padded bt' → first' ≡ table (first_column tp' bt') → last' ≡ table (last_column tp' bt')
    → Standing tp' bt' t c up' lo' first' last' a f low high number s
standing_late {tp} {bt} {t} {c} {up} {lo} {first} {last} tp' bt' up' lo' first' last' S p p' et eb ok two dense eu el ef es =
    record {
      accepted = ok;
      pairs = two;
      dense = dense;
      few = S.few;
      within = omega (arith, width-least t tp' bt');
      tops = eu;
      bottoms = el;
      firsts = ef;
      lasts = es;
      keeps = λ w.
          keeps_late t c tp bt tp' bt' first last first' last'
          (record { fit = rows_fit tp bt S.accepted; two = S.pairs; dense = S.dense })
          (record { fit = rows_fit tp' bt' ok; two = two; dense = dense }) p p' et eb
          (standing_ready S).spans later_ready.spans (S.keeps w);
    }
  where
    later_ready : Ready tp' bt' first' last' t TwoPin
    later_ready = ready tp' bt' ok (omega (arith, S.few)) (sym two) ef es
