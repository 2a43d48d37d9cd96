-- The new numbers follow the first pins, and are 1, 2, 3 with none left out. Assumes nothing.
use Prim.Native.Nat.{ℕ, zero, suc, ◌+◌, ◌≤◌, ◌<◌}
use mathlib.Core.Path.{◌≡◌, refl, sym, ap, ◌∙◌}
use mathlib.Core.Logic.{◌⊎◌, inl, inr, ◌≢◌, ⊎_elim}
use mathlib.Core.Bool.{Bool, true, false}
use mathlib.Core.List.{List, [], ◌∷◌, ◌++◌, append_assoc, append-nil}
use native.Mathlib.Omega.{arith}
use native.Mathlib.Decide.{ℕ_discrete}
use lib.Dec.{eqb}
use lib.ListN.{length, get_or}
use Rattle.grid.specs.Channel.{pick, bit, times, left, rows_refused}
use Rattle.grid.proofs.Tests.{eq-eqb, Same, same, same_by}
use Rattle.grid.proofs.Counting.{holds_times}
use Rattle.grid.proofs.Rows.{RowsFit, rows_fit, left_suc, left_at, pin_left}
use Rattle.canonical.specs.Renaming.{shifted, rank, with_net, nets_to, net_list, new_number, IsNet, Before, by_column, by_row, InOrder}
use Rattle.canonical.proofs.Ranks.{suc_not, rank_le, rank_old, rank_new, WithNet, empty, known, new, with_net_by, with_net_has}
use Rattle.canonical.proofs.Order.{Terminal, top_terminal, bottom_terminal, nets_none, nets_once, nets_all, nets_has, net_ranked}

-- LISTS THAT GROW

-- m is l with more numbers behind it
record Prefix (l m : List ℕ) : Type 0 where
  pub more : List ℕ
  pub grows : m ≡ l ++ more

with_net_prefix : (l : List ℕ) (x : ℕ) → Prefix l (with_net l x)
with_net_prefix l x = go (with_net l x) (with_net_by l x)
  where
    go : (m : List ℕ) → WithNet l x m → Prefix l m
    go m (empty e) = record { more = []; grows = sym (append-nil l) }
    go m (known n k) = record { more = []; grows = sym (append-nil l) }
    go m (new n k) = record { more = x ∷ []; grows = refl }

prefix_then : {l m n : List ℕ} → Prefix l m → Prefix m n → Prefix l n
prefix_then {l} {m} {n} a b = record { more = a.more ++ b.more; grows = b.grows ∙ ap (λ z. z ++ b.more) a.grows ∙ append_assoc l a.more b.more }

module _ (top bottom : List ℕ) where
  nets_step : (k : ℕ) → Prefix (nets_to top bottom k) (nets_to top bottom (suc k))
  unfolding nets_to
  nets_step k = prefix_then (with_net_prefix (nets_to top bottom k) (get_or top k 0)) (with_net_prefix (with_net (nets_to top bottom k) (get_or top k 0)) (get_or bottom k 0))

  nets_prefix : (k m : ℕ) → k ≤ m → Prefix (nets_to top bottom k) (nets_to top bottom m)
  nets_prefix k zero h = same_end (omega arith)
    where
      same_end : k ≡ 0 → Prefix (nets_to top bottom k) (nets_to top bottom 0)
      same_end e = record { more = []; grows = ap (nets_to top bottom) (sym e) ∙ sym (append-nil (nets_to top bottom k)) }
  nets_prefix k (suc m) h = go (ℕ_discrete k (suc m)) (λ l. nets_prefix k m l)
    where
      go : Dec (k ≡ suc m) → (k ≤ m → Prefix (nets_to top bottom k) (nets_to top bottom m)) → Prefix (nets_to top bottom k) (nets_to top bottom (suc m))
      go (yes e) ih = record { more = []; grows = ap (nets_to top bottom) (sym e) ∙ sym (append-nil (nets_to top bottom k)) }
      go (no n) ih = prefix_then (ih (omega arith)) (nets_step m)

-- a number that comes later stands behind
rank_late : (v : ℕ) (l r : List ℕ) → rank v l ≡ 0 → rank v (l ++ r) ≢ 0 → length l < rank v (l ++ r)
unfolding rank
rank_late v [] r z n = positive (rank v r) n
  where
    positive : (k : ℕ) → k ≢ 0 → 0 < k
    positive k h = omega arith
rank_late v (x ∷ xs) r z n = go (eqb x v) (rank v xs) z (rank v (xs ++ r)) n (rank_late v xs r)
  where
    go : (q : Bool) (k : ℕ) → pick q 1 (shifted k) ≡ 0 → (m : ℕ) → pick q 1 (shifted m) ≢ 0 → (k ≡ 0 → m ≢ 0 → length xs < m) → suc (length xs) < pick q 1 (shifted m)
    go true k e m h ih = absurd (omega arith)
    go false zero e zero h ih = absurd (h refl)
    go false zero e (suc m) h ih = omega (arith, ih refl (suc_not m))
    go false (suc k) e m h ih = absurd (omega arith)

-- of two numbers of a list that has grown, the one that stood there before comes first
ahead : (l m : List ℕ) (u v : ℕ) → Prefix l m → rank u l ≢ 0 → rank v l ≡ 0 → rank v m ≢ 0 → rank u m < rank v m
ahead l m u v g p z n =
    let e = ap (rank u) g.grows ∙ rank_old u l g.more p in
    let f = ap (rank v) g.grows in
    omega (arith, rank_le u l, rank_late v l g.more z (λ y. n (f ∙ y)))

-- THE ORDER

-- a number of a list with net x stood there before, or is x
with_net-from : (l : List ℕ) (x v : ℕ) → rank v (with_net l x) ≢ 0 → (rank v l ≢ 0) ⊎ (x ≡ v)
with_net-from l x v n = go (with_net l x) (with_net_by l x) n
  where
    last : (q : Bool) → Same x v q → rank v l ≡ 0 → pick q (suc (length l)) 0 ≢ 0 → (rank v l ≢ 0) ⊎ (x ≡ v)
    last true (same e) z h = inr e
    last false s z h = absurd (h refl)

    old : Dec (rank v l ≡ 0) → rank v (l ++ (x ∷ [])) ≢ 0 → (rank v l ≢ 0) ⊎ (x ≡ v)
    old (yes z) h = last (eqb x v) (same_by x v) z (λ y. h (rank_new v x l z ∙ y))
    old (no d) h = inl d

    go : (m : List ℕ) → WithNet l x m → rank v m ≢ 0 → (rank v l ≢ 0) ⊎ (x ≡ v)
    go m (empty e) h = inl h
    go m (known a b) h = inl h
    go m (new a b) h = old (ℕ_discrete (rank v l) 0) h

module _ (top bottom : List ℕ) where
  -- a net among the first k columns' has a pin there
  nets_from : (v : ℕ) → v ≢ 0 → (k : ℕ) → rank v (nets_to top bottom k) ≢ 0 → 0 < left top bottom k v
  unfolding nets_to rank
  nets_from v n zero h = absurd (h refl)
  nets_from v n (suc k) h =
      ⊎_elim
      (λ a. ⊎_elim (λ b. omega (arith, left_suc top bottom v k n, nets_from v n k b)) (λ e. pin_left top bottom v k n (inl e)) (with_net-from (nets_to top bottom k) (get_or top k 0) v a))
      (λ e. pin_left top bottom v k n (inr e))
      (with_net-from (with_net (nets_to top bottom k) (get_or top k 0)) (get_or bottom k 0) v h)

  -- one that has none there is none of them
  not_yet : (v : ℕ) → v ≢ 0 → (k : ℕ) → left top bottom k v ≡ 0 → rank v (nets_to top bottom k) ≡ 0
  not_yet v n k z = go (ℕ_discrete (rank v (nets_to top bottom k)) 0)
    where
      go : Dec (rank v (nets_to top bottom k) ≡ 0) → rank v (nets_to top bottom k) ≡ 0
      go (yes e) = e
      go (no d) = absurd (omega (arith, nets_from v n k d))

module _ (top bottom : List ℕ) (fit : RowsFit top bottom) (u v : ℕ) (net_u : IsNet top bottom u) (net_v : IsNet top bottom v) where
  -- "column by column": a net with a pin in the columns 1 to k comes before one with none there
  columns-first : (k : ℕ) → k ≤ length top → 0 < left top bottom k u → left top bottom k v ≡ 0 → new_number top bottom u < new_number top bottom v
  unfolding new_number net_list
  columns-first k h p z =
      let (i, l, t) = left_at top bottom u k p in
      ahead (nets_to top bottom k) (nets_to top bottom (length top)) u v (nets_prefix top bottom k (length top) h) (nets_has top bottom u i k net_u.number l t)
      (not_yet top bottom v net_v.number k z) (net_ranked top bottom fit v net_v)

  -- "top before bottom": of two nets in column k + 1 the top one, where the other has no pin before
  top-first : (k : ℕ) → k < length top → get_or top k 0 ≡ u → u ≢ v → left top bottom k v ≡ 0 → new_number top bottom u < new_number top bottom v
  unfolding new_number net_list nets_to
  top-first k h e d z =
      let l : List ℕ = with_net (nets_to top bottom k) (get_or top k 0) in
      ahead l (nets_to top bottom (length top)) u v
      (prefix_then (with_net_prefix l (get_or bottom k 0)) (nets_prefix top bottom (suc k) (length top) h))
      (λ y. with_net_has (nets_to top bottom k) (get_or top k 0) (λ x. net_u.number (sym e ∙ x)) (ap (λ w. rank w l) e ∙ y))
      (other (ℕ_discrete (rank v l) 0)) (net_ranked top bottom fit v net_v)
    where
      other : Dec (rank v (with_net (nets_to top bottom k) (get_or top k 0)) ≡ 0) → rank v (with_net (nets_to top bottom k) (get_or top k 0)) ≡ 0
      other (yes y) = y
      other (no n) = absurd (⊎_elim (λ a. a (not_yet top bottom v net_v.number k z)) (λ x. d (sym e ∙ x)) (with_net-from (nets_to top bottom k) (get_or top k 0) v n))

-- NONE LEFT OUT

-- the rank of a number that stands in a list once
rank_once : (l : List ℕ) → ((v : ℕ) → times v l ≤ 1) → (j : ℕ) → j < length l → rank (get_or l j 0) l ≡ suc j
unfolding rank times
rank_once [] once j h = absurd (omega arith)
rank_once (x ∷ xs) once zero h = ap (λ q. pick q 1 (shifted (rank x xs))) (eq-eqb x x refl)
rank_once (x ∷ xs) once (suc j) h = go (eqb x (get_or xs j 0)) (same_by x (get_or xs j 0)) (once (get_or xs j 0)) (rank_once xs rest j (omega arith))
  where
    rest : (v : ℕ) → times v xs ≤ 1
    rest v = omega (arith, once v)

    go : (q : Bool) → Same x (get_or xs j 0) q → bit q + times (get_or xs j 0) xs ≤ 1 → rank (get_or xs j 0) xs ≡ suc j → pick q 1 (shifted (rank (get_or xs j 0) xs)) ≡ suc (suc j)
    go true s o e = absurd (omega (arith, holds_times xs j (get_or xs j 0) (omega arith) refl))
    go false s o e = ap shifted e

-- each number up to the count of the nets is a net's
all_used : (top bottom : List ℕ) → RowsFit top bottom → (j : ℕ) → j < length (net_list top bottom) → (v : ℕ) × IsNet top bottom v × (new_number top bottom v ≡ suc j)
unfolding new_number net_list
all_used top bottom fit j h = (
  get_or (nets_to top bottom (length top)) j 0,
  net (nets_all top bottom (Terminal top bottom fit) (inl refl) (top_terminal top bottom fit) (bottom_terminal top bottom fit) (length top) j),
  at,
)
  where
    at : rank (get_or (nets_to top bottom (length top)) j 0) (nets_to top bottom (length top)) ≡ suc j
    at = rank_once (nets_to top bottom (length top)) (λ v. nets_once top bottom v (length top)) j h

    net : Terminal top bottom fit (get_or (nets_to top bottom (length top)) j 0) → IsNet top bottom (get_or (nets_to top bottom (length top)) j 0)
    net (inl e) = absurd (suc_not j (sym at ∙ ap (λ z. rank z (nets_to top bottom (length top))) e ∙ nets_none top bottom (length top)))
    net (inr n) = n

-- the new numbers are in the order of the first pins
pub in_order_lem : (top bottom : List ℕ) → rows_refused top bottom 256 ≡ 0 → InOrder top bottom (new_number top bottom) (length (net_list top bottom))
unfolding new_number
in_order_lem top bottom e = record { within = within; used = used; lower = lower }
  where
    fit : RowsFit top bottom
    fit = rows_fit top bottom e

    positive : (k : ℕ) → k ≢ 0 → 1 ≤ k
    positive k n = omega arith

    within : (v : ℕ) → IsNet top bottom v → (1 ≤ rank v (net_list top bottom)) × (rank v (net_list top bottom) ≤ length (net_list top bottom))
    within v net = (positive (rank v (net_list top bottom)) (net_ranked top bottom fit v net), rank_le v (net_list top bottom))

    used : (j : ℕ) → 1 ≤ j → j ≤ length (net_list top bottom) → (v : ℕ) × IsNet top bottom v × (rank v (net_list top bottom) ≡ j)
    used zero a b = absurd (omega arith)
    used (suc j) a b = all_used top bottom fit j (omega arith)

    lower : (u v : ℕ) → IsNet top bottom u → IsNet top bottom v → Before top bottom u v → rank u (net_list top bottom) < rank v (net_list top bottom)
    lower u v p q (by_column k h l z) = columns-first top bottom fit u v p q k h l z
    lower u v p q (by_row k h l d z) = top-first top bottom fit u v p q k h l d z
