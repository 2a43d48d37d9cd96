-- From one gap to the next, and the columns drawn so far.
use Prim.Native.Nat.{ℕ, suc, ◌+◌, ◌-◌, ◌*◌, ◌≤◌, ◌<◌}
use mathlib.Core.Path.{◌≡◌, refl, sym, ap, subst, ◌∙◌}
use mathlib.Core.Bool.{Bool, true, false}
use mathlib.Core.List.{List, ◌++◌, append_assoc}
use native.Mathlib.Nat.{zero-mul, suc-mul, mul-le-mul_right, add-sub_cancel_left}
use native.Mathlib.Numerals.{add-one}
use native.Mathlib.Omega.{arith}
use lib.ListN.{length, take, drop, length-append}
use lib.Seq.{take_at, drop_at, drop-drop}
use Rattle.grid.specs.declared.Family.{Family}
use Rattle.grid.specs.declared.Family.TheVariants.{TwoPin, ThreePin, ManyPin}
use Rattle.grid.specs.Channel.{pick, family}
use Rattle.grid.proofs.Tests.{not_both}
use Rattle.sweep.specs.declared.Action.{Action}
use Rattle.sweep.specs.declared.Move.{Move}
use Rattle.sweep.specs.Tracks.{after, verticals}
use Rattle.sweep.specs.Drawing.{move_of, move, mates_after, state_by, state, gap, move_at, drawn_by, drawn}
use Rattle.router.specs.Working.{tracks_in, Holds, RowsAndLasts, Ready, Fitting, FitsAt, Keeps, Mated, forms, AtGap, DrawnTo, with_column}
use Rattle.sweep.proofs.Columns.Entries.{verticals-length}
use Rattle.router.proofs.Laws.Arrays.{own, length-tracks}

-- one column more fits
pub fits_next : (n i each : ℕ) → i < n → i * each + each ≤ n * each
fits_next n i each h = subst (λ (x : ℕ). x ≤ n * each) (suc-mul i each) (mul-le-mul_right each h)

-- where the next column begins
pub at_next : (at i each : ℕ) → at ≡ i * each → at + each ≡ (i + 1) * each
at_next at i each e = cc (add-one i, suc-mul i each)

-- what the arrays hold are their own tracks
pub keeps_own : {last : List ℕ} {t : ℕ} {fam : Family} {c : ℕ} {tr a f l h n s w : List ℕ} → Keeps last t fam c tr a f l h n s w → Keeps last t fam c (tracks_in t a) a f l h n s w
keeps_own k = record { holds = own k.holds; marked = k.marked }

-- the rows and the last columns of a channel
pub rows_and_lasts : {top bottom first last : List ℕ} {t : ℕ} {fam : Family} → Ready top bottom first last t fam → RowsAndLasts top bottom last
rows_and_lasts r = record { rows = r.rows; most = r.most; tops = r.tops; bottoms = r.bottoms; lasts = r.spans.after }

-- THE MATES
-- what the arrays hold are their own mates
pub mated_own : {fam : Family} {m number mates l : List ℕ} → Mated fam m number mates l → Mated fam mates number mates l
mated_own k = record { is = λ e. refl; small = k.small; lone = k.lone }

-- what the rules choose depends on the mates only where pairs are formed
rules_mates : (fam : Family) (t : ℕ) (top bottom : List ℕ) (c : ℕ) (tr m mates : List ℕ) → (forms fam ≡ true → mates ≡ m) → move_of t top bottom fam c tr mates ≡ move_of t top bottom fam c tr m
unfolding move_of
rules_mates TwoPin t top bottom c tr m mates e = refl
rules_mates ThreePin t top bottom c tr m mates e = ap (move_of t top bottom ThreePin c tr) (e refl)
rules_mates ManyPin t top bottom c tr m mates e = refl

-- and so does the move
move_mates : (t : ℕ) (top bottom : List ℕ) (c : ℕ) (tr m mates : List ℕ) → (forms (family top bottom) ≡ true → mates ≡ m) → move t top bottom c tr mates ≡ move t top bottom c tr m
unfolding move
move_mates t top bottom c tr m mates e = rw (rules_mates (family top bottom) t top bottom c tr m mates e)

module _ (top bottom : List ℕ) (c : ℕ) (x : Move) {last : List ℕ} {t : ℕ} {fam : Family} {a f l h n s w m q : List ℕ} (g : AtGap top bottom last t fam c a f l h n s w m q)
    (r : family top bottom ≡ fam) (e : x ≡ move t top bottom c (tracks_in t a) m) where
  -- the column's move, by the arrays, is that of the gap which they hold
  pub move_at_lem : x ≡ move_at t top bottom c
  unfolding move_at
  move_at_lem =
      e ∙ move_mates t top bottom c (tracks_in t a) (state t top bottom c).mates m (λ i. g.mated.is (ap forms (sym r) ∙ i))
      ∙ ap (λ (z : List ℕ). move t top bottom c z (state t top bottom c).mates) g.keeps.holds.is

  -- it fits the arrays' tracks
  pub fitting_at : FitsAt t top bottom c → Fitting top bottom c x (tracks_in t a)
  fitting_at p = subst (λ (z : Move). Fitting top bottom c z (tracks_in t a)) (sym move_at_lem) (subst (λ (z : List ℕ). Fitting top bottom c (move_at t top bottom c) z) (sym g.keeps.holds.is) p)

  -- the tracks and the mates in the next gap
  tracks_next : after x.action (tracks_in t a) ≡ gap t top bottom (suc c)
  unfolding state_by move_at
  tracks_next = ap (λ (z : Move). after z.action (tracks_in t a)) move_at_lem ∙ ap (after (move_at t top bottom c).action) g.keeps.holds.is

  mates_next : m ≡ (state t top bottom c).mates → mates_after top bottom c x m ≡ (state t top bottom (suc c)).mates
  unfolding state_by move_at
  mates_next i = ap (λ (z : Move). mates_after top bottom c z m) move_at_lem ∙ ap (mates_after top bottom c (move_at t top bottom c)) i

  -- the arrays and sets hold the next gap
  pub at_gap_next : {a' f' l' h' n' s' w' m' q' : List ℕ} → Keeps last t fam (c + 1) (after x.action (tracks_in t a)) a' f' l' h' n' s' w'
      → Mated fam (mates_after top bottom c x m) n' m' q' → AtGap top bottom last t fam (c + 1) a' f' l' h' n' s' w' m' q'
  at_gap_next {a'} {f'} {l'} {h'} {n'} {s'} {w'} {m'} {q'} k p = record {
    keeps = subst (λ (z : List ℕ). Keeps last t fam (c + 1) z a' f' l' h' n' s' w') (tracks_next ∙ ap (gap t top bottom) (sym (add-one c))) k;
    mated = record {
      is = λ z. p.is z ∙ mates_next (g.mated.is z) ∙ ap (λ (i : ℕ). (state t top bottom i).mates) (sym (add-one c));
      small = p.small;
      lone = p.lone;
    };
  }

-- one column more is drawn
drawn_suc : (t : ℕ) (top bottom : List ℕ) (i : ℕ) → drawn t top bottom (i + 1) ≡ drawn t top bottom i ++ (verticals t (move_at t top bottom i).action ++ gap t top bottom (i + 1))
unfolding drawn_by move_at
drawn_suc t top bottom i = rw add-one

-- the entries of column i + 1, as the writer leaves them
column_next : (top bottom : List ℕ) (i : ℕ) (x : Action) (ys : List ℕ) {t : ℕ} {a f l h n : List ℕ} → x ≡ (move_at t top bottom i).action
    → Holds t (gap t top bottom (i + 1)) a f l h n → ys ≡ verticals t x ++ tracks_in t a → drawn t top bottom (i + 1) ≡ drawn t top bottom i ++ ys
column_next top bottom i x ys {t} {a} e u y =
    let s : ys ≡ verticals t (move_at t top bottom i).action ++ gap t top bottom (i + 1) = cc u.is in
    drawn_suc t top bottom i ∙ ap (λ (z : List ℕ). drawn t top bottom i ++ z) (sym s)

-- its entries
length_next : (t : ℕ) (top bottom : List ℕ) (i each : ℕ) (ys : List ℕ) → length (drawn t top bottom i) ≡ i * each → length ys ≡ each → drawn t top bottom (i + 1) ≡ drawn t top bottom i ++ ys
    → length (drawn t top bottom (i + 1)) ≡ (i + 1) * each
length_next t top bottom i each ys e f g = ap length g ∙ length-append (drawn t top bottom i) ys ∙ cc (add-one i, suc-mul i each)

-- the layout then
layout_next : (t : ℕ) (top bottom l₀ l ys : List ℕ) (i at each : ℕ) → at ≡ i * each → l ≡ drawn t top bottom i ++ drop (i * each) l₀ → length (drawn t top bottom i) ≡ i * each
    → drawn t top bottom (i + 1) ≡ drawn t top bottom i ++ ys → take at l ++ (ys ++ drop (at + each) l) ≡ drawn t top bottom (i + 1) ++ drop ((i + 1) * each) l₀
layout_next t top bottom l₀ l ys i at each ea el ln ed =
    let D : List ℕ = drawn t top bottom i in
    let R : List ℕ = drop (i * each) l₀ in
    let len : length D ≡ at = ln ∙ sym ea in
    let t1 : take at l ≡ D = ap (take at) el ∙ take_at D R at len in
    let d1 : drop at l ≡ R = ap (drop at) el ∙ drop_at D R at len in
    let r1 : drop each R ≡ drop ((i + 1) * each) l₀ = drop-drop each (i * each) l₀ ∙ ap (λ (z : ℕ). drop z l₀) (ap (λ (z : ℕ). z + each) (sym ea) ∙ at_next at i each ea) in
    let r2 : drop (at + each) l ≡ drop ((i + 1) * each) l₀ = sym (drop-drop each at l) ∙ ap (drop each) d1 ∙ r1 in
    let whole : take at l ++ (ys ++ drop (at + each) l) ≡ D ++ (ys ++ drop ((i + 1) * each) l₀) = cc in
    whole ∙ sym (append_assoc D ys (drop ((i + 1) * each) l₀)) ∙ ap (λ (z : List ℕ). z ++ drop ((i + 1) * each) l₀) (sym ed)

-- the writer's part of the layout is the column
pub part_written : (t at : ℕ) (x : Action) (tr l ys : List ℕ) → ys ≡ verticals t x ++ tr → take at l ++ (ys ++ drop (at + (2 * t + 1) - at) (drop at l)) ≡ with_column t at x tr l
part_written t at x tr l ys e =
    let k : at + (2 * t + 1) - at ≡ 2 * t + 1 = add-sub_cancel_left at (2 * t + 1) in
    let d : drop (2 * t + 1) (drop at l) ≡ drop (at + (2 * t + 1)) l = drop-drop (2 * t + 1) at l in
    cc

-- a column that is drawn, and one that is not
pub column-drawn : (b : Bool) (x y l : List ℕ) → b ≡ true → l ≡ x → l ≡ pick b x y
column-drawn true x y l z e = e
column-drawn false x y l z e = absurd (not_both z refl)

pub column_dry : (b : Bool) (x y : List ℕ) → b ≡ false → y ≡ pick b x y
column_dry true x y z = absurd (not_both refl z)
column_dry false x y z = refl

-- nothing is drawn yet
pub none_drawn : (b : Bool) (top bottom : List ℕ) (t : ℕ) (l : List ℕ) → DrawnTo b top bottom t 0 l l
unfolding drawn_by
none_drawn b top bottom t l = record { shows = go b; sized = sym (zero-mul (2 * t + 1)) }
  where
    go : (b : Bool) → l ≡ pick b (drawn t top bottom 0 ++ drop (0 * (2 * t + 1)) l) l
    go true = rw zero-mul
    go false = refl

-- one column more, drawn or not
pub drawn_next : (b : Bool) (top bottom l₀ l l' : List ℕ) (i at : ℕ) (x : Action) {t : ℕ} {a f low high n : List ℕ} → at ≡ i * (2 * t + 1)
    → DrawnTo b top bottom t i l₀ l → x ≡ (move_at t top bottom i).action → Holds t (gap t top bottom (i + 1)) a f low high n
    → l' ≡ pick b (with_column t at x (tracks_in t a) l) l → DrawnTo b top bottom t (i + 1) l₀ l'
drawn_next b top bottom l₀ l l' i at x {t} {a} ea D ex h el = record { shows = go b D.shows el; sized = length_next t top bottom i (2 * t + 1) ys D.sized size d }
  where
    ys : List ℕ
    ys = verticals t x ++ tracks_in t a

    d : drawn t top bottom (i + 1) ≡ drawn t top bottom i ++ ys
    d = column_next top bottom i x ys ex h refl

    size : length ys ≡ 2 * t + 1
    size = length-append (verticals t x) (tracks_in t a) ∙ omega (arith, verticals-length t x, length-tracks t a h.fits h.sized)

    go : (b : Bool) → l ≡ pick b (drawn t top bottom i ++ drop (i * (2 * t + 1)) l₀) l₀ → l' ≡ pick b (with_column t at x (tracks_in t a) l) l
        → l' ≡ pick b (drawn t top bottom (i + 1) ++ drop ((i + 1) * (2 * t + 1)) l₀) l₀
    go true e f = f ∙ layout_next t top bottom l₀ l ys i at (2 * t + 1) ea e D.sized d
    go false e f = f ∙ e
