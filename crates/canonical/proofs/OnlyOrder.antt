-- Of two nets one comes before the other, so no two numberings of a channel's nets are in order. Assumes nothing.
use Prim.Native.Nat.{ℕ, zero, suc, ◌≤◌, ◌<◌}
use mathlib.Core.Path.{◌≡◌, sym, ◌∙◌}
use mathlib.Core.Logic.{◌⊎◌, inl, inr, ◌≢◌, ⊎_elim}
use mathlib.Core.List.{List}
use native.Mathlib.Omega.{arith}
use native.Mathlib.Decide.{dec_lt, ℕ_discrete}
use lib.ListN.{length, get_or}
use Rattle.grid.specs.Channel.{left, rows_refused}
use Rattle.grid.proofs.Tests.{eqb_diff}
use Rattle.grid.proofs.Rows.{RowsFit, rows_fit, before, left_suc, pin_left}
use Rattle.canonical.specs.Renaming.{new_number, IsNet, Before, by_column, by_row, InOrder}
use Rattle.canonical.proofs.Order.{left_all}
use Rattle.canonical.proofs.FirstPins.{in_order_lem}

-- ONE OF TWO NETS COMES FIRST
module _ (top bottom : List ℕ) (u v : ℕ) (nu : u ≢ 0) (nv : v ≢ 0) (d : u ≢ v) where
  -- none in the next column either
  still_none : (w k : ℕ) → w ≢ 0 → left top bottom k w ≡ 0 → get_or top k 0 ≢ w → get_or bottom k 0 ≢ w → left top bottom (suc k) w ≡ 0
  still_none w k n z p q = omega (arith, left_suc top bottom w k n, eqb_diff (get_or top k 0) w p, eqb_diff (get_or bottom k 0) w q)

  -- the columns 1 to k have no pin of either, or one comes first there
  first_of : (k : ℕ) → k ≤ length top
      → ((left top bottom k u ≡ 0) × (left top bottom k v ≡ 0)) ⊎ (Before top bottom u v ⊎ Before top bottom v u)
  first_of zero h = inl (before top bottom u, before top bottom v)
  first_of (suc k) h = ⊎_elim (λ n. step n.0 n.1) (λ b. inr b) (first_of k (omega arith))
    where
      step : left top bottom k u ≡ 0 → left top bottom k v ≡ 0
          → ((left top bottom (suc k) u ≡ 0) × (left top bottom (suc k) v ≡ 0)) ⊎ (Before top bottom u v ⊎ Before top bottom v u)
      step a b = go (ℕ_discrete (get_or top k 0) u) (ℕ_discrete (get_or top k 0) v) (ℕ_discrete (get_or bottom k 0) u) (ℕ_discrete (get_or bottom k 0) v)
        where
          go : Dec (get_or top k 0 ≡ u) → Dec (get_or top k 0 ≡ v) → Dec (get_or bottom k 0 ≡ u) → Dec (get_or bottom k 0 ≡ v)
              → ((left top bottom (suc k) u ≡ 0) × (left top bottom (suc k) v ≡ 0)) ⊎ (Before top bottom u v ⊎ Before top bottom v u)
          go (yes e) q r s = inr (inl (by_row k h e d b))
          go (no p) (yes e) r s = inr (inr (by_row k h e (λ x. d (sym x)) a))
          go (no p) (no q) (yes e) s =
              inr (inl (by_column (suc k) h (pin_left top bottom u k nu (inr e)) (still_none v k nv b q (λ x. d (sym e ∙ x)))))
          go (no p) (no q) (no r) (yes e) = inr (inr (by_column (suc k) h (pin_left top bottom v k nv (inr e)) (still_none u k nu a p r)))
          go (no p) (no q) (no r) (no s) = inl (still_none u k nu a p r, still_none v k nv b q s)

-- of two nets
one_first : (top bottom : List ℕ) → RowsFit top bottom → (u v : ℕ) → IsNet top bottom u → IsNet top bottom v → u ≢ v → Before top bottom u v ⊎ Before top bottom v u
one_first top bottom fit u v p q d = ⊎_elim (λ n. absurd (none n.0)) (λ b. b) (first_of top bottom u v p.number q.number d (length top) (omega arith))
  where
    none : left top bottom (length top) u ≡ 0 → ⊥
    none z = omega (arith, p.pinned, left_all top bottom fit.same u)

-- TWO NUMBERINGS IN ORDER
module _ (top bottom : List ℕ) (fit : RowsFit top bottom) where
  -- agree on which of two nets has the lower number
  same_order : (g h : ℕ → ℕ) (m n : ℕ) → InOrder top bottom g m → InOrder top bottom h n
      → (u v : ℕ) → IsNet top bottom u → IsNet top bottom v → g u < g v → h u < h v
  same_order g h m n G H u v p q l = ⊎_elim (λ b. H.lower u v p q b) (λ b. absurd (omega (arith, l, G.lower v u q p b))) (one_first top bottom fit u v p q apart)
    where
      apart : u ≢ v
      apart e = let x : g u ≡ g v = (cc) in omega (arith, l)

  module _ (g h : ℕ → ℕ) (m n : ℕ) (G : InOrder top bottom g m) (H : InOrder top bottom h n) where
    -- and so on the number, where all nets with lower numbers have the same
    agree_next : (j : ℕ) → ((w : ℕ) → IsNet top bottom w → g w ≤ j → g w ≡ h w) → (v : ℕ) → IsNet top bottom v → g v ≡ suc j → g v ≡ h v
    agree_next j ih v net e = omega (arith, e, least (dec_lt 0 j), most (dec_lt (suc j) (h v)))
      where
        -- one with the number before comes before it
        least : Dec (0 < j) → suc j ≤ h v
        least (yes l) =
            let (u, p, x) = G.used j l (omega (arith, e, G.within v net)) in
            omega (arith, same_order g h m n G H u v p net (omega (arith, e, x)), ih u p (omega (arith, x)), x)
        least (no l) = omega (arith, l, H.within v net)

        -- and none takes this number
        most : Dec (suc j < h v) → h v ≤ suc j
        most (yes l) =
            let (w, p, x) = H.used (suc j) (omega arith) (omega (arith, l, H.within v net)) in
            let y = same_order h g n m H G w v p net (omega (arith, l, x)) in
            absurd (omega (arith, y, e, x, ih w p (omega (arith, y, e))))
        most (no l) = omega (arith, l)

    -- up to each number
    agree_to : (j v : ℕ) → IsNet top bottom v → g v ≤ j → g v ≡ h v
    agree_to zero v net l = absurd (omega (arith, l, G.within v net))
    agree_to (suc j) v net l = go (λ w. agree_to j w) (ℕ_discrete (g v) (suc j))
      where
        go : ((w : ℕ) → IsNet top bottom w → g w ≤ j → g w ≡ h w) → Dec (g v ≡ suc j) → g v ≡ h v
        go ih (yes e) = agree_next j ih v net e
        go ih (no d) = ih v net (omega (arith, l, d))

-- the new numbers alone are in order
pub only_order : (top bottom : List ℕ) → rows_refused top bottom 256 ≡ 0 → (number : ℕ → ℕ) (m : ℕ) → InOrder top bottom number m
    → (v : ℕ) → IsNet top bottom v → number v ≡ new_number top bottom v
only_order top bottom e number m o v net =
    agree_to top bottom (rows_fit top bottom e) number (new_number top bottom) m _ o (in_order_lem top bottom e) (number v) v net (omega arith)
