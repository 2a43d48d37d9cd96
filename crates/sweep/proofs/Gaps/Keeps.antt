-- A sound action keeps the invariant, if it treats the nets that end, and those with their last pin here, as it should.
use Prim.Native.Nat.{ℕ, suc, ◌+◌, ◌≤◌, ◌<◌}
use mathlib.Core.Path.{◌≡◌, sym, ap, ◌∙◌, subst}
use mathlib.Core.Logic.{◌⊎◌, inl, inr, ◌≢◌, ⊎_elim}
use mathlib.Core.List.{List}
use native.Mathlib.Omega.{arith}
use native.Mathlib.Decide.{ℕ_discrete, dec_lt}
use lib.Dec.{eqb}
use lib.ListN.{get_or}
use Rattle.grid.specs.Channel.{bit, times, left, right}
use Rattle.grid.proofs.Tests.{eq_bit}
use Rattle.grid.proofs.Counting.{times_at, two_times, at_below}
use Rattle.grid.proofs.Rows.{HasPin, left_suc, right_suc}
use Rattle.sweep.specs.declared.Action.{Action}
use Rattle.sweep.specs.Tracks.{after}
use Rattle.sweep.proofs.Tracks.Strands.{Strand, strand_times}
use Rattle.sweep.proofs.Tracks.After.{gifts, after-length, after-times, after_ended, times_more}
use Rattle.sweep.proofs.Columns.Sound.{Sound, lands_out, kept, bottom_lands_lem, top_lands_lem}
use Rattle.sweep.proofs.Gaps.Held.{Held}
use Rattle.sweep.proofs.Gaps.Pins.{On, Off}

-- what an action in column c + 1 has to show besides; P and Q are the nets of its top and bottom pin
pub record Follows (top bottom : List ℕ) (c P Q : ℕ) (tr : List ℕ) (x : Action) : Type 0 where
  -- the net that ends leaves if it has later pins, and is given no track if it has none
  pub ended_on : x.ended ≢ 0 → On top bottom c x.ended → (y : ℕ) × Strand x.ended (after x tr) y
  pub ended_off : x.ended ≢ 0 → Off top bottom c x.ended → gifts x.ended x ≡ 0
  -- it has no more strands than before and for its pins
  pub ended_few : x.ended ≢ 0 → gifts x.ended x ≤ times x.ended tr + (bit (eqb P x.ended) + bit (eqb Q x.ended))
  -- a second net that ends has no later pin, and is given no track
  pub closed_off : x.closed ≢ 0 → Off top bottom c x.closed × (gifts x.closed x ≡ 0)
  -- every other net is given a track for each of its pins here at most
  pub others_few : (v : ℕ) → v ≢ 0 → x.ended ≢ v → x.closed ≢ v → gifts v x ≤ bit (eqb P v) + bit (eqb Q v)
  -- and if its last pin is here, it began before, and takes a track beside its own: it is extended
  pub beside : (v : ℕ) → v ≢ 0 → (P ≡ v) ⊎ (Q ≡ v) → x.ended ≢ v → x.closed ≢ v → Off top bottom c v
      → (0 < left top bottom c v) × ((y : ℕ) × (u : ℕ) × Strand u tr y × (u ≢ v) × Strand v (after x tr) y)

module _ {t : ℕ} (top bottom : List ℕ) (c : ℕ) (tr : List ℕ) (h : Held t top bottom c tr) (x : Action)
    (s : Sound t (get_or top c 0) (get_or bottom c 0) tr x) (f : Follows top bottom c (get_or top c 0) (get_or bottom c 0) tr x) where
  -- a net with a pin in the column, by the pins on either side
  pin_here : (v : ℕ) → v ≢ 0 → right top bottom (suc c) v < right top bottom c v → HasPin top bottom v c
  pin_here v n p =
      ⊎_elim (λ d. inl d.0) (λ d. ⊎_elim (λ e. inr e.0) (λ e. absurd (omega (arith, right_suc top bottom v c n))) (eq_bit (get_or bottom c 0) v))
      (eq_bit (get_or top c 0) v)

  -- a pin's net that does not end leaves
  out_here : (v : ℕ) → v ≢ 0 → HasPin top bottom v c → x.ended ≢ v → x.closed ≢ v → 0 < times v (after x tr)
  out_here v n (inl e) m k = strand_times (lands_out m k (top_lands_lem t (get_or top c 0) (get_or bottom c 0) tr x s v n e))
  out_here v n (inr e) m k = strand_times (lands_out m k (bottom_lands_lem t (get_or top c 0) (get_or bottom c 0) tr x s v n e))

  -- the strands of a net that does not end run on
  still : (v : ℕ) → v ≢ 0 → x.ended ≢ v → x.closed ≢ v → times v tr ≤ times v (after x tr)
  still v n m k = times_more v tr (after x tr) n (λ j e. kept t (get_or top c 0) (get_or bottom c 0) tr x s j v n m k e)

  -- OPEN NETS HAVE STRANDS
  opens : (v : ℕ) → v ≢ 0 → 0 < left top bottom (suc c) v → 0 < right top bottom (suc c) v → 0 < times v (after x tr)
  opens v n l r = go (ℕ_discrete x.ended v) (ℕ_discrete x.closed v) (dec_lt 0 (times v tr))
    where
      start : times v tr ≡ 0 → left top bottom c v ≡ 0
      start z = at (ℕ_discrete (left top bottom c v) 0)
        where
          at : Dec (left top bottom c v ≡ 0) → left top bottom c v ≡ 0
          at (yes e) = e
          at (no e) = absurd (omega (arith, h.opens v n (omega arith) (omega (arith, right_suc top bottom v c n))))

      go : Dec (x.ended ≡ v) → Dec (x.closed ≡ v) → Dec (0 < times v tr) → 0 < times v (after x tr)
      go (yes e) d p =
          let (y, g) = f.ended_on (λ i. n (sym e ∙ i)) (subst (On top bottom c) (sym e) r) in subst (λ (z : ℕ). 0 < times z (after x tr)) e (strand_times g)
      go (no m) (yes e) p = absurd (omega (arith, subst (Off top bottom c) e (f.closed_off (λ i. n (sym e ∙ i))).0))
      go (no m) (no k) (yes p) = omega (arith, still v n m k)
      go (no m) (no k) (no p) = out_here v n (pin_here v n (omega (arith, start (omega arith), left_suc top bottom v c n, right_suc top bottom v c n))) m k

  -- A NET WITH NO PINS TO COME IS GONE, OR EXTENDED
  done : (v : ℕ) → v ≢ 0 → right top bottom (suc c) v ≡ 0 → (times v (after x tr) ≡ 0) ⊎ (2 ≤ times v (after x tr))
  done v n r = go (ℕ_discrete x.ended v) (ℕ_discrete x.closed v) (ℕ_discrete (right top bottom c v) 0)
    where
      pair : (i k : ℕ) → i ≢ k → get_or (after x tr) i 0 ≡ v → get_or (after x tr) k 0 ≡ v → 2 ≤ times v (after x tr)
      pair i k d e g = at (dec_lt i k)
        where
          at : Dec (i < k) → 2 ≤ times v (after x tr)
          at (yes p) = two_times v (after x tr) i k p (at_below (after x tr) k v n g) e g
          at (no p) = two_times v (after x tr) k i (omega arith) (at_below (after x tr) i v n e) g e

      idle : x.ended ≢ v → x.closed ≢ v → right top bottom c v ≡ 0 → (times v tr ≡ 0) ⊎ (2 ≤ times v tr)
          → (times v (after x tr) ≡ 0) ⊎ (2 ≤ times v (after x tr))
      idle m k z (inl e) = inl (omega (arith, after-times x tr v n, f.others_few v n m k, right_suc top bottom v c n))
      idle m k z (inr e) = inr (omega (arith, still v n m k))

      ends : x.ended ≢ v → x.closed ≢ v → right top bottom c v ≢ 0 → (times v (after x tr) ≡ 0) ⊎ (2 ≤ times v (after x tr))
      ends m k z =
          let (l, (y, u, g, d, w)) = f.beside v n (pin_here v n (omega arith)) m k r in
          let (i, p, e) = times_at v tr (h.opens v n l (omega arith)) in
          inr (pair i w.index (λ q. d (sym g.holds ∙ ap (λ (j : ℕ). get_or tr j 0) (let a : g.index ≡ i = omega (arith, g.is, w.is) in a) ∙ e))
          (kept t (get_or top c 0) (get_or bottom c 0) tr x s i v n m k e) w.holds)

      go : Dec (x.ended ≡ v) → Dec (x.closed ≡ v) → Dec (right top bottom c v ≡ 0) → (times v (after x tr) ≡ 0) ⊎ (2 ≤ times v (after x tr))
      go (yes e) d z = inl (omega (arith, after_ended x tr v n (inl e), rw e at (f.ended_off (λ i. n (sym e ∙ i)) (subst (Off top bottom c) (sym e) r))))
      go (no m) (yes e) z = inl (omega (arith, after_ended x tr v n (inr e), rw e at (f.closed_off (λ i. n (sym e ∙ i))).1))
      go (no m) (no k) (yes z) = idle m k z (h.done v n z)
      go (no m) (no k) (no z) = ends m k z

  -- a net has no more strands than before and for its pins
  pub few_more : (v : ℕ) → v ≢ 0 → times v (after x tr) ≤ times v tr + (bit (eqb (get_or top c 0) v) + bit (eqb (get_or bottom c 0) v))
  few_more v n = go (ℕ_discrete x.ended v) (ℕ_discrete x.closed v)
    where
      go : Dec (x.ended ≡ v) → Dec (x.closed ≡ v) → times v (after x tr) ≤ times v tr + (bit (eqb (get_or top c 0) v) + bit (eqb (get_or bottom c 0) v))
      go (yes e) d = omega (arith, after_ended x tr v n (inl e), rw e at (f.ended_few (λ i. n (sym e ∙ i))))
      go (no m) (yes e) = omega (arith, after_ended x tr v n (inr e), rw e at (f.closed_off (λ i. n (sym e ∙ i))).1)
      go (no m) (no k) = omega (arith, after-times x tr v n, f.others_few v n m k)

  -- NO MORE STRANDS THAN PINS TO THE LEFT
  few : (v : ℕ) → v ≢ 0 → times v (after x tr) ≤ left top bottom (suc c) v
  few v n = omega (arith, few_more v n, h.few v n, left_suc top bottom v c n)

  -- THE INVARIANT HOLDS IN THE NEXT GAP
  pub keeps : Held t top bottom (suc c) (after x tr)
  keeps = record { size = after-length x tr ∙ h.size; opens = opens; done = done; few = few }
