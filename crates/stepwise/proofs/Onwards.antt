-- Arrays that stand for a channel: whether a column is left to draw, what drawing columns one after another leaves, and what a step answers.
use Prim.Native.Nat.{ℕ, suc, ◌+◌, ◌*◌, ◌/◌, ◌≤◌, ◌<◌, min}
use mathlib.Core.Path.{◌≡◌, refl, sym, ap, ap₂, subst, ◌∙◌}
use mathlib.Core.Logic.{◌≢◌, ⊎_elim}
use mathlib.Core.Bool.{Bool, true, false, not, ◌&&◌}
use mathlib.Core.List.{List, [], ◌++◌}
use native.Mathlib.Omega.{arith}
use native.Mathlib.Nat.{suc-mul, mul-le-mul_right}
use lib.Dec.{eqb, ltb}
use lib.ListN.{length, get_or, drop, get_or-eq_default}
use Rattle.grid.specs.Channel.{pick}
use Rattle.std.specs.Prelude.{Result, Ok, Err}
use Rattle.grid.specs.declared.refusals.Refusal.{Refusal}
use Rattle.grid.specs.declared.refusals.Refusal.TheVariants.{LayoutTooShort}
use Rattle.grid.specs.Refusals.{number_of, answer_of}
use Rattle.grid.proofs.Answers.{accepted_old}
use Rattle.grid.proofs.Numbers.{number_answer, figures_answer, pick_within}
use Rattle.grid.proofs.Tests.{not_both, below_or, and_none, and_true, ltb-true, ltb-false, lt-ltb, le-ltb, eq-eqb, ne_eqb}
use Rattle.sets.specs.Member.{member, LowestFrom}
use Rattle.sweep.specs.Tracks.{many}
use Rattle.sweep.specs.Drawing.{later, gap, drawn, width}
use Rattle.sweep.proofs.Solved.{width_most}
use Rattle.sweep.proofs.Drawing.Past.{right_past, some_left, none_left, drawn_length_past, width-least}
use Rattle.router.specs.Answers.{formula_length}
use Rattle.router.specs.Working.{extended_by, DrawnTo}
use Rattle.router.specs.State.{Standing}
use Rattle.router.proofs.Laws.Sweeps.{nonzero}
use Rattle.router.proofs.Laws.Standing.{standing_fit, standing_enough, standing_ready}
use Rattle.stepwise.specs.declared.Stepped.{Stepped}
use Rattle.stepwise.specs.Sweep.{state_of, Stands, no_step, step_figures, step_refused, stepped, Steps}
use Rattle.stepwise.specs.Working.{DrawsOn}

-- past column n no net has pins to come
later_past : (tp bt : List ℕ) (c v : ℕ) → length bt ≡ length tp → length tp ≤ c → later tp bt c v ≡ false
unfolding later
later_past tp bt c v e p = rw (right_past 0 tp bt (sym e) c v p) (and_none (not (eqb v 0)) false refl)

module _ {tp bt : List ℕ} {t c : ℕ} {up lo first last a f low high number s : List ℕ} (S : Standing tp bt t c up lo first last a f low high number s) where
  -- THE WIDTH is n + t/2 at most
  standing_half : width t tp bt ≤ length tp + t / 2
  standing_half = width_most t tp bt (standing_fit S) (standing_enough S)

  -- so no column is over 511
  standing_far : c ≤ 511
  standing_far = omega (arith, standing_half, (standing_ready S).most, S.few, S.within)

  -- A NUMBER OVER 511 is no column's
  pub left_over : 511 < c → false ≡ ltb c (width t tp bt)
  left_over p = absurd (omega (arith, standing_far))

  -- UP TO COLUMN n a column is left
  pub left_within : c < length tp → true ≡ ltb c (width t tp bt)
  left_within p = sym (lt-ltb c (width t tp bt) (omega (arith, width-least t tp bt)))

  -- PAST COLUMN n a net with strands is extended
  extended_past : length tp ≤ c → (v : ℕ) → 0 < v → v ≤ 256 → 0 < many v (gap t tp bt c) → member s v ≡ true
  unfolding extended_by
  extended_past p v q b m =
      let y = standing_ready S in
      let l : ltb c (get_or last v 0) ≡ false = sym (y.spans.after c v b) ∙ later_past tp bt c v y.rows p in
      let n : ltb 0 (get_or number v 0) ≡ true = lt-ltb 0 (get_or number v 0) (omega (arith, (S.keeps []).holds.numbers.at v q b)) in
      ((S.keeps []).marked v).extended ∙ rw (ne_eqb v 0 (omega arith), l, n)

  -- and an extended net has strands
  extended-strands : (v : ℕ) → member s v ≡ true → (0 < v) × (0 < many v (gap t tp bt c))
  unfolding extended_by
  extended-strands v e =
      let (z, y) = and_true (not (eqb v 0)) (not (ltb c (get_or last v 0)) && ltb 0 (get_or number v 0)) (sym ((S.keeps []).marked v).extended ∙ e) in
      let n : 0 < get_or number v 0 = ltb-true 0 (get_or number v 0) (and_true (not (ltb c (get_or last v 0))) (ltb 0 (get_or number v 0)) y).1 in
      let q = nonzero v z in
      let k = (S.keeps []).holds.numbers in
      ⊎_elim (λ (b : v < 257). (q, omega (arith, k.at v q (omega arith))))
      (λ (b : 257 ≤ v).
      let over : get_or number v 0 ≡ 0 = get_or-eq_default number 0 (omega (arith, k.size)) in
      absurd (omega arith)) (below_or v 257)

  -- SO A COLUMN IS LEFT where the set of the extended nets has a member
  pub left_past : (r : ℕ) → length tp ≤ c → LowestFrom s 0 r → ltb r 512 ≡ ltb c (width t tp bt)
  left_past r p o = ⊎_elim some none (below_or c (width t tp bt))
    where
      some : c < width t tp bt → ltb r 512 ≡ ltb c (width t tp bt)
      some q =
          let (v, z, b, m) = some_left t tp bt (standing_fit S).same c p q in
          let h : r < 512 =
          ⊎_elim (λ (h : r < 512). h) (λ (h : 512 ≤ r). absurd (not_both (extended_past p v z b m) (o.below v (omega arith) (omega arith))))
          (below_or r 512) in
          lt-ltb r 512 h ∙ sym (lt-ltb c (width t tp bt) q)

      none : width t tp bt ≤ c → ltb r 512 ≡ ltb c (width t tp bt)
      none q =
          let e : c ≡ width t tp bt = omega (arith, S.within) in
          let h : 512 ≤ r =
          ⊎_elim
          (λ (h : r < 512).
          let (z, m) = extended-strands r (o.found h) in
          absurd (omega (arith, m, ap (λ (k : ℕ). many r (gap t tp bt k)) e, none_left t tp bt (standing_fit S) (standing_enough S) r z)))
          (λ (h : 512 ≤ r). h) (below_or r 512) in
          le-ltb r 512 h ∙ sym (le-ltb c (width t tp bt) q)

-- COLUMNS DRAWN ONE AFTER ANOTHER
-- the place of column e + 1 is in a slice of document 01's length
room_for : (e w m each lent : ℕ) → e < w → w ≤ m → m * each ≤ lent → e * each + each ≤ lent
room_for e w m each lent p q h =
    let b : suc e ≤ m = omega arith in
    omega (arith, suc-mul e each, mul-le-mul_right each b)

module _ {tp bt : List ℕ} {t c : ℕ} {up lo first last : List ℕ} where
  -- as they begin
  pub draws_none : {a f low high number s l : List ℕ} → Standing tp bt t c up lo first last a f low high number s
      → DrawsOn tp bt t c 0 c up lo first last a f low high number s l l
  draws_none S = record { drawn = omega (arith, S.within); stands = S; shows = λ l₀ d. d }

  module _ {i e : ℕ} {a f low high number s l l₁ : List ℕ} (D : DrawsOn tp bt t c i e up lo first last a f low high number s l l₁) where
    -- one more, by what its drawing promises
    pub draws_next : {n : ℕ} {b : Bool} {a' f' low' high' number' s' l₂ : List ℕ} → n ≡ length tp → formula_length n t ≤ length l → length l₁ ≡ length l
        → b ≡ true → b ≡ ltb e (width t tp bt)
        → (Standing tp bt t e up lo first last a f low high number s → e < width t tp bt → e ≤ 511 → e * (2 * t + 1) + (2 * t + 1) ≤ length l₁
        → Standing tp bt t (e + 1) up lo first last a' f' low' high' number' s'
        × ((l₀ : List ℕ) → DrawnTo true tp bt t e l₀ l₁ → DrawnTo true tp bt t (e + 1) l₀ l₂))
        → DrawsOn tp bt t c (i + 1) (e + 1) up lo first last a' f' low' high' number' s' l l₂
    draws_next {n} en room same here is next =
        let h : e < width t tp bt = ltb-true e (width t tp bt) (sym is ∙ here) in
        let g = next D.stands h (standing_far D.stands)
        (room_for e (width t tp bt) (n + t / 2) (2 * t + 1) (length l₁) h (omega (arith, standing_half D.stands)) (omega arith)) in
        record { drawn = omega (arith, D.drawn, g.0.within); stands = g.0; shows = λ l₀ d. g.1 l₀ (D.shows l₀ d) }

    -- where none is left, as many as there are
    pub draws_all : {k : ℕ} {b : Bool} → i < k → b ≡ false → b ≡ ltb e (width t tp bt) → DrawsOn tp bt t c k e up lo first last a f low high number s l l₁
    draws_all p none is =
        let h : width t tp bt ≤ e = ltb-false e (width t tp bt) (sym is ∙ none) in
        record { drawn = omega (arith, D.drawn, D.stands.within); stands = D.stands; shows = D.shows }

    -- and where as many are drawn as were asked for
    pub draws_asked : {k : ℕ} → i ≡ k → DrawsOn tp bt t c k e up lo first last a f low high number s l l₁
    draws_asked p = record { drawn = omega (arith, D.drawn); stands = D.stands; shows = D.shows }

-- WHAT A STEP ANSWERS
module _ (top bottom : List ℕ) (t c k lent : ℕ) where
  -- its number is that of its refusal
  pub stepped_number : number_of (stepped top bottom t c k lent) ≡ step_refused top bottom t c lent
  unfolding stepped
  stepped_number = number_answer _ _ (pick_within _ 8 0 (omega arith) (omega arith))

  -- and a refusal has zeros
  pub stepped_zeros : step_refused top bottom t c lent ≢ 0 → step_figures (stepped top bottom t c k lent) ≡ no_step
  unfolding stepped
  stepped_zeros n = figures_answer no_step (step_refused top bottom t c lent) _ ∙ accepted_old (step_refused top bottom t c lent) _ no_step n

-- up to the width, not to be below it is to have reached it
not_below : (e w : ℕ) → e ≤ w → not (ltb e w) ≡ eqb e w
not_below e w p =
    ⊎_elim (λ (q : e < w). ap not (lt-ltb e w q) ∙ sym (ne_eqb e w (omega arith)))
    (λ (q : w ≤ e). ap not (le-ltb e w q) ∙ sym (eq-eqb e w (omega arith))) (below_or e w)

-- the answer by whether the slice is too short, with e columns drawn
answer_by : (w : ℕ) (short : Bool) (e : ℕ) → Result Stepped Refusal
answer_by w short e = answer_of (pick short 8 0) (record { drawn = e; finished = eqb e w })

module _ {tp bt : List ℕ} {t c : ℕ} {n tr d : ℕ} {up lo first last a f low high number s : List ℕ}
    (S : Stands tp bt t c (state_of n tr d up lo first last a f low high number s)) where
  -- the slice length asked for is document 01's
  asked_length : {q : ℕ} → (n ≤ 256 → tr ≤ 511 → q ≡ formula_length n tr) → q ≡ formula_length (length tp) t
  asked_length h =
      h (omega (arith, S.columns, (standing_ready S.arrays).most)) (omega (arith, S.tracks, S.arrays.few))
      ∙ ap₂ formula_length S.columns S.tracks

  -- A SLICE THAT IS TOO SHORT is refused, and nothing is done
  pub step_short : {q k : ℕ} {old : List ℕ} → (n ≤ 256 → tr ≤ 511 → q ≡ formula_length n tr) → length old < q
      → Steps tp bt t c k old old (Err LayoutTooShort) (state_of n tr d up lo first last a f low high number s)
  unfolding stepped answer_by
  step_short {q} {k} {old} h p =
      let b : ltb (length old) (formula_length (length tp) t) ≡ true = lt-ltb _ _ (subst (λ (z : ℕ). length old < z) (asked_length h) p) in
      record {
        answer = ap (λ (z : Bool). answer_by (width t tp bt) z (min (c + k) (width t tp bt))) (sym b);
        stands = S;
        layout = λ e. refl;
      }

  -- ELSE THE STEP DRAWS
  pub step_drew : {q k e : ℕ} {b : Bool} {a' f' low' high' number' s' old new : List ℕ} → (n ≤ 256 → tr ≤ 511 → q ≡ formula_length n tr) → q ≤ length old
      → ((tp bt : List ℕ) → n ≡ length tp → formula_length n tr ≤ length old → Standing tp bt tr d up lo first last a f low high number s
      → DrawsOn tp bt tr d k e up lo first last a' f' low' high' number' s' old new)
      → ((tp bt up lo first last a f low high number : List ℕ) (t : ℕ) → n ≡ length tp → Standing tp bt t e up lo first last a f low high number s'
      → b ≡ ltb e (width t tp bt))
      → Steps tp bt t c k old new (Ok (record { drawn = e; finished = not b })) (state_of n tr e up lo first last a' f' low' high' number' s')
  unfolding stepped answer_by
  step_drew {q} {k} {e} {b} {a'} {f'} {low'} {high'} {number'} {s'} {old} {new} h p draws left =
      record {
        answer = ap (λ (z : Bool). Ok (record { drawn = e; finished = z })) (ap not is ∙ not_below e (width t tp bt) D.stands.within)
            ∙ ap₂ (answer_by (width t tp bt)) (sym fits) D.drawn;
        stands = record {
          columns = S.columns;
          tracks = S.tracks;
          drawn = D.drawn;
          arrays = subst (λ (z : ℕ). Standing tp bt t z up lo first last a' f' low' high' number' s') D.drawn D.stands;
        };
        layout = λ sh.
            (D.shows old (record { shows = sh; sized = drawn_length_past t tp bt c })).shows
            ∙ ap (λ (z : ℕ). drawn t tp bt z ++ drop (z * (2 * t + 1)) old) D.drawn;
      }
    where
      room : formula_length (length tp) t ≤ length old
      room = subst (λ (z : ℕ). z ≤ length old) (asked_length h) p

      fits : ltb (length old) (formula_length (length tp) t) ≡ false
      fits = le-ltb _ _ room

      standing : Standing tp bt tr d up lo first last a f low high number s
      standing =
          subst (λ (z : ℕ). Standing tp bt z d up lo first last a f low high number s) (sym S.tracks)
          (subst (λ (z : ℕ). Standing tp bt t z up lo first last a f low high number s) (sym S.drawn) S.arrays)

      D : DrawsOn tp bt t c k e up lo first last a' f' low' high' number' s' old new
      D =
          subst (λ (z : ℕ). DrawsOn tp bt z c k e up lo first last a' f' low' high' number' s' old new) S.tracks
          (subst (λ (z : ℕ). DrawsOn tp bt tr z k e up lo first last a' f' low' high' number' s' old new) S.drawn
          (draws tp bt S.columns (subst (λ (z : ℕ). z ≤ length old) (sym (ap₂ formula_length S.columns S.tracks)) room) standing))

      is : b ≡ ltb e (width t tp bt)
      is = left tp bt up lo first last a' f' low' high' number' t S.columns D.stands
