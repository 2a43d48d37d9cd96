-- The nets in the order of their first pin: each net of the channel stands there once, 0 does not, and a renaming renames them. Assumes nothing.
use Prim.Native.Nat.{ℕ, zero, suc, ◌*◌, ◌≤◌, ◌<◌}
use mathlib.Core.Path.{◌≡◌, refl, sym, ap, ap₂, ◌∙◌}
use mathlib.Core.Logic.{◌⊎◌, inl, inr, ◌≢◌, ⊎_elim}
use mathlib.Core.Bool.{true}
use mathlib.Core.List.{List, map}
use native.Mathlib.Omega.{arith}
use native.Mathlib.Decide.{ℕ_discrete}
use lib.ListN.{length, get_or, get_or-map}
use Rattle.grid.specs.Channel.{times, count, pins, left}
use Rattle.grid.proofs.Counting.{times_at, holds_times, at_below, sum_le, length-times}
use Rattle.grid.proofs.Sums.{count_le}
use Rattle.grid.proofs.Rows.{RowsFit, HasPin, left-right, no_right, left_at}
use Rattle.canonical.specs.Renaming.{rank, with_net, nets_to, net_list, IsNet}
use Rattle.canonical.proofs.Ranks.{with_net_old, with_net_has, with_net_none, with_net_once, with_net-length, with_net_all, with_net-map, rank-times, Apart}

module _ (top bottom : List ℕ) where
  -- 0 is none of them
  pub nets_none : (k : ℕ) → rank 0 (nets_to top bottom k) ≡ 0
  unfolding nets_to rank
  nets_none zero = refl
  nets_none (suc k) =
      with_net_none (with_net (nets_to top bottom k) (get_or top k 0)) (get_or bottom k 0) (with_net_none (nets_to top bottom k) (get_or top k 0) (nets_none k))

  -- each stands there once
  pub nets_once : (v k : ℕ) → times v (nets_to top bottom k) ≤ 1
  unfolding nets_to times
  nets_once v zero = omega arith
  nets_once v (suc k) =
      with_net_once (with_net (nets_to top bottom k) (get_or top k 0)) (get_or bottom k 0) v (with_net_once (nets_to top bottom k) (get_or top k 0) v (nets_once v k))

  -- two a column at most
  pub nets_length : (k : ℕ) → length (nets_to top bottom k) ≤ 2 * k
  unfolding nets_to
  nets_length zero = omega arith
  nets_length (suc k) =
      omega (arith, nets_length k, with_net-length (nets_to top bottom k) (get_or top k 0), with_net-length (with_net (nets_to top bottom k) (get_or top k 0)) (get_or bottom k 0))

  -- what holds of each terminal, and of 0, holds of each of them
  pub nets_all : (P : ℕ → Type 0) → P 0 → ((i : ℕ) → P (get_or top i 0)) → ((i : ℕ) → P (get_or bottom i 0)) → (k i : ℕ) → P (get_or (nets_to top bottom k) i 0)
  unfolding nets_to
  nets_all P z t b zero i = z
  nets_all P z t b (suc k) i =
      with_net_all P (with_net (nets_to top bottom k) (get_or top k 0)) (get_or bottom k 0) z (b k)
      (with_net_all P (nets_to top bottom k) (get_or top k 0) z (t k) (nets_all P z t b k)) i

  -- those before stay among them
  nets_old : (v k : ℕ) → rank v (nets_to top bottom k) ≢ 0 → rank v (nets_to top bottom (suc k)) ≢ 0
  unfolding nets_to
  nets_old v k h e =
      let a = with_net_old (nets_to top bottom k) (get_or top k 0) v h in
      let b = with_net_old (with_net (nets_to top bottom k) (get_or top k 0)) (get_or bottom k 0) v (λ y. h (sym a ∙ y)) in
      h (sym a ∙ sym b ∙ e)

  -- the nets of column k + 1 are among them
  nets_new : (v k : ℕ) → v ≢ 0 → (get_or top k 0 ≡ v) ⊎ (get_or bottom k 0 ≡ v) → rank v (nets_to top bottom (suc k)) ≢ 0
  unfolding nets_to
  nets_new v k n (inl e) y =
      let m : List ℕ = nets_to top bottom k in
      let a : rank v (with_net m (get_or top k 0)) ≢ 0 = λ x. with_net_has m (get_or top k 0) (λ z. n (sym e ∙ z)) (ap (λ z. rank z (with_net m (get_or top k 0))) e ∙ x) in
      a (sym (with_net_old (with_net m (get_or top k 0)) (get_or bottom k 0) v a) ∙ y)
  nets_new v k n (inr e) y =
      let m : List ℕ = with_net (nets_to top bottom k) (get_or top k 0) in
      with_net_has m (get_or bottom k 0) (λ z. n (sym e ∙ z)) (ap (λ z. rank z (with_net m (get_or bottom k 0))) e ∙ y)

  -- and so are those of every column up to k
  pub nets_has : (v i k : ℕ) → v ≢ 0 → i < k → (get_or top i 0 ≡ v) ⊎ (get_or bottom i 0 ≡ v) → rank v (nets_to top bottom k) ≢ 0
  nets_has v i zero n h t = absurd (omega arith)
  nets_has v i (suc k) n h t = go (ℕ_discrete i k) (λ l. nets_has v i k n l t)
    where
      go : Dec (i ≡ k) → (i < k → rank v (nets_to top bottom k) ≢ 0) → rank v (nets_to top bottom (suc k)) ≢ 0
      go (yes e) ih = nets_new v k n (⊎_elim (λ x. inl (ap (λ z. get_or top z 0) (sym e) ∙ x)) (λ x. inr (ap (λ z. get_or bottom z 0) (sym e) ∙ x)) t)
      go (no e) ih = nets_old v k (ih (omega arith))

-- a renamed row, place by place
pub renamed_at : (f : ℕ → ℕ) → f 0 ≡ 0 → (l : List ℕ) (i : ℕ) → get_or (map f l) i 0 ≡ f (get_or l i 0)
renamed_at f z l i = ap (λ d. get_or (map f l) i d) (sym z) ∙ get_or-map f l i 0

-- the nets of a renamed channel, where f is one-to-one on the numbers with P: those of the terminals, and 0
pub nets_map : (top bottom : List ℕ) (f : ℕ → ℕ) (P : ℕ → Type 0) → f 0 ≡ 0 → ((u v : ℕ) → P u → P v → f u ≡ f v → u ≡ v) → P 0
    → ((i : ℕ) → P (get_or top i 0)) → ((i : ℕ) → P (get_or bottom i 0))
    → (k : ℕ) → nets_to (map f top) (map f bottom) k ≡ map f (nets_to top bottom k)
unfolding nets_to
nets_map top bottom f P z one p t b zero = refl
nets_map top bottom f P z one p t b (suc k) =
    ap₂ (λ x y. with_net (with_net (nets_to (map f top) (map f bottom) k) x) y) (renamed_at f z top k) (renamed_at f z bottom k)
    ∙ ap (λ m. with_net (with_net m (f (get_or top k 0))) (f (get_or bottom k 0))) (nets_map top bottom f P z one p t b k)
    ∙ ap (λ m. with_net m (f (get_or bottom k 0))) (with_net-map f (nets_to top bottom k) (get_or top k 0) z (empty (get_or top k 0) (t k)) first)
    ∙ with_net-map f (with_net (nets_to top bottom k) (get_or top k 0)) (get_or bottom k 0) z (empty (get_or bottom k 0) (b k)) second
  where
    empty : (x : ℕ) → P x → f x ≡ 0 → x ≡ 0
    empty x q e = one x 0 q p (e ∙ sym z)

    all : (i : ℕ) → P (get_or (nets_to top bottom k) i 0)
    all = nets_all top bottom P p t b k

    first : Apart f (get_or top k 0) (nets_to top bottom k)
    first i = one _ _ (all i) (t k)

    second : Apart f (get_or bottom k 0) (with_net (nets_to top bottom k) (get_or top k 0))
    second i = one _ _ (with_net_all P (nets_to top bottom k) (get_or top k 0) p (t k) all i) (b k)

module _ (top bottom : List ℕ) (same : length top ≡ length bottom) where
  -- all pins lie in the columns 1 to n
  pub left_all : (v : ℕ) → left top bottom (length top) v ≡ pins top bottom v
  left_all v = omega (arith, left-right top bottom v (length top), no_right top bottom v (omega arith))

  -- a number with pins has one in some column
  pub pin_at_lem : (v : ℕ) → 0 < pins top bottom v → (i : ℕ) × (i < length top) × HasPin top bottom v i
  pin_at_lem v p = left_at top bottom v (length top) (omega (arith, p, left_all v))

module _ (top bottom : List ℕ) (fit : RowsFit top bottom) where
  -- the number of a terminal: no pin, or a net
  abbrev pub Terminal : ℕ → Type 0
  Terminal v = (v ≡ 0) ⊎ IsNet top bottom v

  pub terminal_by : (v : ℕ) → (v ≢ 0 → IsNet top bottom v) → Terminal v
  terminal_by v net = go (ℕ_discrete v 0)
    where
      go : Dec (v ≡ 0) → Terminal v
      go (yes e) = inl e
      go (no n) = inr (net n)

  -- a row whose numbers are pins holds such numbers
  terminal_of : (l : List ℕ) → ((v : ℕ) → times v l ≤ pins top bottom v) → (i : ℕ) → Terminal (get_or l i 0)
  terminal_of l within i = terminal_by (get_or l i 0) (λ n.
      record { number = n; pinned = omega (arith, holds_times l i (get_or l i 0) (at_below l i (get_or l i 0) n refl) refl, within (get_or l i 0)) })

  pub top_terminal : (i : ℕ) → Terminal (get_or top i 0)
  unfolding pins
  top_terminal = terminal_of top (λ v. omega arith)

  pub bottom_terminal : (i : ℕ) → Terminal (get_or bottom i 0)
  unfolding pins
  bottom_terminal = terminal_of bottom (λ v. omega arith)

  -- a net has a rank in the order
  pub net_ranked : (v : ℕ) → IsNet top bottom v → rank v (net_list top bottom) ≢ 0
  unfolding net_list
  net_ranked v net = let (i, l, e) = pin_at_lem top bottom fit.same v net.pinned in nets_has top bottom v i (length top) net.number l e

  -- they are 256 at most
  pub nets_few : length (net_list top bottom) ≤ 256
  unfolding net_list count
  nets_few =
      omega (
        arith,
        length-times (nets_to top bottom (length top)) 256 small,
        rank-times 0 (nets_to top bottom (length top)) (nets_none top bottom (length top)),
        sum_le (λ v. times v (nets_to top bottom (length top))) (λ v. 1) 256 (λ v. nets_once top bottom (suc v) (length top)),
        count_le (λ v. true) 256,
      )
    where
      within : (u : ℕ) → Terminal u → 256 < u → ⊥
      within u (inl e) h = omega arith
      within u (inr n) h = omega (arith, n.pinned, fit.small u h)

      small : (v : ℕ) → 256 < v → times v (nets_to top bottom (length top)) ≡ 0
      small v h = go (ℕ_discrete (times v (nets_to top bottom (length top))) 0)
        where
          go : Dec (times v (nets_to top bottom (length top)) ≡ 0) → times v (nets_to top bottom (length top)) ≡ 0
          go (yes e) = e
          go (no n) =
              let (i, l, e) = times_at v (nets_to top bottom (length top)) (omega arith) in
              absurd (within (get_or (nets_to top bottom (length top)) i 0) (nets_all top bottom Terminal (inl refl) top_terminal bottom_terminal (length top) i) (omega arith))
