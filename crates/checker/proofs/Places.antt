-- The checker's tests of refusals 13 to 17, 19 and 20 in the words of `Faults`: what each says of an entry's position, or of a net. Assumes nothing.
use Prim.Native.Nat.{ℕ, suc, ◌+◌, ◌*◌, ◌-◌, ◌/◌, ◌%◌, ◌≤◌, ◌<◌}
use mathlib.Core.Path.{◌≡◌, refl, sym, ◌∙◌, ap}
use mathlib.Core.Logic.{◌≢◌, ◌↔◌, ◌⊎◌, inl, inr, ⊎_elim, by_cases}
use mathlib.Core.Bool.{true, not, ◌&&◌}
use mathlib.Core.List.{List}
use lib.ListN.{length, get_or}
use lib.Dec.{eqb, ltb}
use native.Mathlib.Omega.{arith}
use native.Mathlib.Decide.{ℕ_discrete}
use native.Mathlib.Nat.{mod-lt, div-add-mod'}
use Rattle.grid.specs.Channel.{pins}
use Rattle.grid.specs.Grid.{vertical_of, horizontal_of}
use Rattle.grid.proofs.Tests.{eq-eqb, ne_eqb, eqb-true, eqb-false, ltb-true, not-true, and_true, not_both}
use Rattle.checker.specs.Faults.{Strange, PinWrong, FaultAt, LeavesLast, Split, LooseEnd, FirstLoose}
use Rattle.checker.specs.Check.{strange, mispinned, terminal_fault, pin_fault, leaves_last, split, loose_at, loose_in, loose_net, loose_column, loose_track}
use Rattle.pieces.specs.Labels.{net_of}
use Rattle.grid.proofs.Drawings.Flat.{vert_at, horz_at}
use Rattle.checker.proofs.Limits.{column_below}
use Rattle.checker.proofs.entries.Pins.{pin_low, pin_high, wrong_pin}
use Rattle.checker.proofs.Terminals.{FaultNumber, bottom_fault, top_fault, pin_fault_of}
use Rattle.checker.proofs.entries.Last.{last_edge_in}
use Rattle.checker.proofs.counting.Splits.{not_split, is_split}
use Rattle.checker.proofs.Least.{some_of, least_is}
use Rattle.checker.proofs.ends.Tests.{is_loose, loose_is, some_loose}

-- 13
pub strange_at : (top bottom D : List ℕ) (p : ℕ) → (strange top bottom D p ≡ true) ↔ Strange top bottom D p
strange_at top bottom D p = (
  λ h.
      let (m, n) = and_true (not (eqb (get_or D p 0) 0)) (eqb (pins top bottom (get_or D p 0)) 0) h in
      (eqb-false (get_or D p 0) 0 (not-true (eqb (get_or D p 0) 0) m), eqb-true (pins top bottom (get_or D p 0)) 0 n),
  λ (n, z). rw (ne_eqb (get_or D p 0) 0 n, eq-eqb (pins top bottom (get_or D p 0)) 0 z),
)

-- 14, 19 and 20: a wrong pin edge
module _ (top bottom : List ℕ) (w t : ℕ) (D : List ℕ) (p : ℕ) where
  pub pin_wrong_at : length D ≡ w * (2 * t + 1) → p < length D → (mispinned top bottom t D p ≡ true) ↔ PinWrong top bottom w t D p
  pin_wrong_at size l = (λ h. there h, λ (x, k, c). back x c)
    where
      there : mispinned top bottom t D p ≡ true → PinWrong top bottom w t D p
      there h =
          let x = p / (2 * t + 1) in
          let i = p % (2 * t + 1) in
          let e : x * (2 * t + 1) + i ≡ p = div-add-mod' p (2 * t + 1) in (
            x,
            column_below w t x i (omega arith),
            ⊎_elim
                (λ (c : (i ≡ 0) × (get_or D p 0 ≢ get_or bottom x 0)).
                inl (omega (arith, c.0), λ z. c.1 (ap (net_of D) (omega (arith, c.0)) ∙ sym (vert_at D t x 0 (omega arith)) ∙ z)))
                (λ (c : (i ≡ t) × (get_or D p 0 ≢ get_or top x 0)).
                inr (omega (arith, c.0), λ z. c.1 (ap (net_of D) (omega (arith, c.0)) ∙ sym (vert_at D t x t (omega arith)) ∙ z)))
                (wrong_pin t (get_or top x 0) (get_or bottom x 0) (get_or D p 0) i h),
          )

      back :
          (x : ℕ)
          → ((p ≡ x * (2 * t + 1)) × (vertical_of D t x 0 ≢ get_or bottom x 0)) ⊎ ((p ≡ x * (2 * t + 1) + t) × (vertical_of D t x t ≢ get_or top x 0))
          → mispinned top bottom t D p ≡ true
      back x (inl (e, n)) = pin_low top bottom t D x p e (λ z. n (vert_at D t x 0 (omega arith) ∙ ap (net_of D) (omega arith) ∙ z))
      back x (inr (e, n)) = rw e (pin_high top bottom t D x (x * (2 * t + 1)) refl (λ z. n (vert_at D t x t (omega arith) ∙ z)))

-- its number: that of the terminal which is compared there
module _ (top bottom : List ℕ) (w t : ℕ) (D : List ℕ) (p : ℕ) where
  module _ (x : ℕ) where
    of_bottom : p ≡ x * (2 * t + 1) → vertical_of D t x 0 ≢ get_or bottom x 0 → pin_fault top bottom t D p ≡ terminal_fault bottom x (vertical_of D t x 0)
    of_bottom e n =
        let v : get_or D p 0 ≡ vertical_of D t x 0 = ap (net_of D) (omega arith) ∙ sym (vert_at D t x 0 (omega arith)) in
        pin_fault_of top bottom t D p x 0 (omega arith) (omega arith)
        ∙ bottom_fault top bottom x 0 (get_or D p 0) refl (λ z. n (sym v ∙ z))
        ∙ ap (terminal_fault bottom x) v

    of_top :
        p ≡ x * (2 * t + 1) + t → (t ≡ 0 → vertical_of D t x 0 ≡ get_or bottom x 0)
        → pin_fault top bottom t D p ≡ terminal_fault top x (vertical_of D t x t)
    of_top e b =
        let v : get_or D p 0 ≡ vertical_of D t x t = ap (net_of D) e ∙ sym (vert_at D t x t (omega arith)) in
        pin_fault_of top bottom t D p x t (omega arith) e
        ∙ top_fault top bottom x t (get_or D p 0) (λ z. v ∙ ap (vertical_of D t x) z ∙ b z)
        ∙ ap (terminal_fault top x) v

  -- and its fault in words
  module _ {Fault : (row : List ℕ) (x e : ℕ) → Type 0} {n : ℕ} (F : FaultNumber Fault n) where
    pub fault_number : FaultAt Fault top bottom w t D p → pin_fault top bottom t D p ≡ n
    fault_number (x, l, inl (e, f)) = of_bottom x e (F.wrong bottom x _ f) ∙ F.number bottom x _ f
    fault_number (x, l, inr (e, f, b)) = of_top x e b ∙ F.number top x _ f

    module _ (k : pin_fault top bottom t D p ≡ n) (x : ℕ) (l : x < w) where
      low : p ≡ x * (2 * t + 1) → vertical_of D t x 0 ≢ get_or bottom x 0 → FaultAt Fault top bottom w t D p
      low e m = (x, l, inl (e, F.words bottom x _ m (sym (of_bottom x e m) ∙ k)))

      high :
          p ≡ x * (2 * t + 1) + t → vertical_of D t x t ≢ get_or top x 0 → (t ≡ 0 → vertical_of D t x 0 ≡ get_or bottom x 0) → FaultAt Fault top bottom w t D p
      high e m b = (x, l, inr (e, F.words top x _ m (sym (of_top x e b) ∙ k), b))

    pub fault_words : PinWrong top bottom w t D p → pin_fault top bottom t D p ≡ n → FaultAt Fault top bottom w t D p
    fault_words (x, l, inl (e, m)) k = low k x l e m
    fault_words (x, l, inr (e, m)) k =
        by_cases (ℕ_discrete t 0)
        (λ z. by_cases (ℕ_discrete (vertical_of D t x 0) (get_or bottom x 0)) (λ b. high k x l e m (λ y. b)) (λ b. low k x l (omega arith) b))
        (λ z. high k x l e m (λ y. absurd (z y)))

-- 15
pub leaves_last_at : (w t : ℕ) (D : List ℕ) (p : ℕ) → (leaves_last w t D p ≡ true) ↔ LeavesLast w t D p
leaves_last_at w t D p = (λ h. there h, λ (x, j, e, l, o, n). back x j e l o n)
  where
    there : leaves_last w t D p ≡ true → LeavesLast w t D p
    there h =
        let x = p / (2 * t + 1) in
        let i = p % (2 * t + 1) in
        let (a, m) = and_true (eqb (suc x) w) (ltb t i && not (eqb (get_or D p 0) 0)) h in
        let (b, c) = and_true (ltb t i) (not (eqb (get_or D p 0) 0)) m in
        let k : t < i = ltb-true t i b in
        let j : ℕ = i - t - 1 in
        let l : j < t = omega (arith, mod-lt p {m = 2 * t + 1} (omega arith)) in
        let o : p ≡ x * (2 * t + 1) + t + 1 + j = omega (arith, div-add-mod' p (2 * t + 1)) in (
          x,
          j,
          eqb-true (suc x) w a,
          l,
          o,
          λ z. eqb-false (get_or D p 0) 0 (not-true (eqb (get_or D p 0) 0) c) (ap (net_of D) o ∙ sym (horz_at D t x j l) ∙ z),
        )

    back : (x j : ℕ) → suc x ≡ w → j < t → p ≡ x * (2 * t + 1) + t + 1 + j → horizontal_of D t x j ≢ 0 → leaves_last w t D p ≡ true
    back x j e l o n =
        last_edge_in w t D p x (t + 1 + j) (omega arith) (omega arith) e (omega arith) (λ z. n (horz_at D t x j l ∙ ap (net_of D) (sym o) ∙ z))

-- 16
pub split_at : (t : ℕ) (D : List ℕ) (N : ℕ) → (split t D N ≡ true) ↔ Split t D N
split_at t D N = (
  λ h. (
    λ z. not_both h (not_split t D N (λ n. absurd (n z))),
    λ o. not_both h (not_split t D N (λ n. o)),
  ),
  λ (n, h). is_split t D N n h,
)

-- 17
module _ (w t : ℕ) (D : List ℕ) (N : ℕ) where
  -- its first point, by the test
  module _ (h : loose_net w t D N ≡ true) where
    first-column_is :
        (loose_in t D N (loose_column w t D N) ≡ true) × (loose_column w t D N < w) × ((x : ℕ) → x < w → loose_in t D N x ≡ true → loose_column w t D N ≤ x)
    unfolding loose_net loose_column
    first-column_is = least_is w (loose_in t D N) h

    first_track_is :
        (loose_at t D N (loose_column w t D N) (loose_track w t D N) ≡ true) × (loose_track w t D N < t)
        × ((j : ℕ) → j < t → loose_at t D N (loose_column w t D N) j ≡ true → loose_track w t D N ≤ j)
    unfolding loose_in loose_track
    first_track_is = least_is t (loose_at t D N (loose_column w t D N)) first-column_is.0

    pub loose_first : FirstLoose w t D N (suc (loose_column w t D N)) (suc (loose_track w t D N))
    unfolding loose_in
    loose_first =
        let (e, l, c) = first-column_is in
        let (o, k, d) = first_track_is in
        let (n, one) = loose_is t D N (loose_column w t D N) (loose_track w t D N) o in
        record {
          x = loose_column w t D N;
          j = loose_track w t D N;
          column_is = refl;
          row_is = refl;
          loose = (n, l, k, one);
          first = λ x' j' (m, a, b, i) before.
              let z = is_loose t D N x' j' m i in
              ⊎_elim (λ (p : x' < loose_column w t D N). omega (arith, p, c x' a (some_of t (loose_at t D N x') j' b z)))
              (λ (p : (x' ≡ loose_column w t D N) × (j' < loose_track w t D N)). omega (arith, p.1, d j' b (rw p.0 at z))) before;
        }

  pub loose_at_lem : (loose_net w t D N ≡ true) ↔ LooseEnd w t D N
  loose_at_lem = (
    λ h. let f = loose_first h in (f.x, f.j, f.loose),
    λ (x, j, (n, l, k, e)). some_loose w t D N x j l k (is_loose t D N x j n e),
  )
