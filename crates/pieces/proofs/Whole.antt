-- The labels of a drawing count the pieces of each net: a net has at most one root exactly if its edges are one piece. Hence the decision `whole?`.
use Prim.Native.Nat.{ℕ, zero, suc, ◌+◌, ◌*◌, ◌≤◌, ◌<◌}
use mathlib.Core.Path.{◌≡◌, refl, sym, ◌∙◌, ap}
use mathlib.Core.Logic.{◌≢◌, ◌↔◌, by_cases}
use mathlib.Core.Bool.{true}
use mathlib.Core.List.{List}
use lib.ListN.{length}
use native.Mathlib.Omega.{arith}
use native.Mathlib.Decide.{ℕ_discrete, dec_le, dec_lt, map_dec}
use native.Mathlib.Nat.{mul-le-mul_left}
use Rattle.grid.specs.Grid.{Linked, here, up, across, back, join, Ends, low, high, near, far, OnePiece, vertical_of, horizontal_of}
use Rattle.grid.specs.Grid as G
use Rattle.grid.proofs.Drawings.Flat.{vert_at, vert_out, horz_at, horz_out}
use Rattle.pieces.specs.Labels.{net_of, labelled, root, roots}
use Rattle.pieces.proofs.Points.{Labelling, labelling}
use Rattle.pieces.proofs.Roots.{tally_two, tally_most, is_root, root_is}
use Rattle.pieces.proofs.Edges.{EndsAt, foot, top, start, end, home_x, home_y, at_home}
use Rattle.pieces.proofs.Edges.{Meets, meets_links, from_home, inside, at_in, touch, at_zero, at_top_lem, at_past}

-- what every edge of a net carries over, both ways
record Closed (v h : ℕ → ℕ → ℕ) (N : ℕ) (P : ℕ → ℕ → Type 0) : Type 0 where
  ups : {x y : ℕ} → v x y ≡ N → P x y ↔ P x (suc y)
  rights : {x j : ℕ} → h x j ≡ N → P x (suc j) ↔ P (suc x) (suc j)

-- every link carries over
carried : {v h : ℕ → ℕ → ℕ} {N : ℕ} {P : ℕ → ℕ → Type 0} {x y x' y' : ℕ} → Closed v h N P → Linked v h N x y x' y' → P x y ↔ P x' y'
carried c here = (λ p. p, λ p. p)
carried c (up e) = c.ups e
carried c (across e) = c.rights e
carried c (back l) = let r = carried c l in (r.1, r.0)
carried c (join l m) = let r = carried c l in let s = carried c m in (λ p. s.0 (r.0 p), λ p. r.1 (s.1 p))

module _ (D : List ℕ) (t : ℕ) where
  -- an entry of net N whose edge ends at a point
  pub data Edge (N x y : ℕ) : Type 0 where
    edge : (p : ℕ) → EndsAt t p x y → net_of D p ≡ N → Edge N x y

  -- each end of an edge is one of an entry
  pub edge_of : {N k x y : ℕ} → N ≢ 0 → Ends (vertical_of D t) (horizontal_of D t) N k x y → Edge N x y
  edge_of {N} {k} n e = go e
    where
      vertical : (y : ℕ) → vertical_of D t k y ≡ N → (y ≤ t) × (net_of D (k * (2 * t + 1) + y) ≡ N)
      vertical y e = by_cases (dec_le y t) (λ l. (l, sym (vert_at D t k y l) ∙ e)) (λ l. absurd (n (sym e ∙ vert_out D t k y (omega arith))))

      horizontal : (j : ℕ) → horizontal_of D t k j ≡ N → (j < t) × (net_of D (k * (2 * t + 1) + t + 1 + j) ≡ N)
      horizontal j e = by_cases (dec_lt j t) (λ l. (l, sym (horz_at D t k j l) ∙ e)) (λ l. absurd (n (sym e ∙ horz_out D t k j (omega arith))))

      go : {x y : ℕ} → Ends (vertical_of D t) (horizontal_of D t) N k x y → Edge N x y
      go (low {y} e) = let r = vertical y e in edge (k * (2 * t + 1) + y) (foot r.0 refl) r.1
      go (high {y} e) = let r = vertical y e in edge (k * (2 * t + 1) + y) (top r.0 refl) r.1
      go (near {j} e) = let r = horizontal j e in edge (k * (2 * t + 1) + t + 1 + j) (start r.0 refl) r.1
      go (far {j} e) = let r = horizontal j e in edge (k * (2 * t + 1) + t + 1 + j) (end r.0 refl) r.1

  -- a point where an edge of net N ends
  data Ended (N x y : ℕ) : Type 0 where
    ended : (k : ℕ) → Ends (vertical_of D t) (horizontal_of D t) N k x y → Ended N x y

  -- each end of an entry's edge is one
  ends_of : {p x y : ℕ} → EndsAt t p x y → Ended (net_of D p) x y
  ends_of (foot {x} {y} l e) = ended x (low (vert_at D t x y l ∙ ap (net_of D) (sym e)))
  ends_of (top {x} {y} l e) = ended x (high (vert_at D t x y l ∙ ap (net_of D) (sym e)))
  ends_of (start {x} {j} l e) = ended x (near (horz_at D t x j l ∙ ap (net_of D) (sym e)))
  ends_of (end {x} {j} l e) = ended x (far (horz_at D t x j l ∙ ap (net_of D) (sym e)))

  module _ (w : ℕ) (size : length D ≤ w * (2 * t + 1)) where
    -- the labels after all columns
    unfoldable pub labels : ℕ → ℕ
    labels = labelled (net_of D) (length D) t w

    -- how many pieces net N has
    unfoldable pub pieces : ℕ → ℕ
    pieces N = roots (net_of D) labels (length D) N

    -- they keep to the links and tie the edges at each point
    ran : Labelling (net_of D) (Meets D t) (meets_links D t) (length D) t w labels
    unfolding labels
    ran = labelling (net_of D) (Meets D t) (meets_links D t) (length D) t (touch D t) w

    -- edges of one net at one point have one label
    closed : (p q x y : ℕ) → EndsAt t p x y → EndsAt t q x y → net_of D p ≡ net_of D q → net_of D p ≢ 0 → labels p ≡ labels q
    closed p q x zero a b m n = ap labels (at_zero D t a ∙ sym (at_zero D t b))
    closed p q x (suc j) a b m n = go (dec_lt j t) (dec_lt x w)
      where
        go : Dec (j < t) → Dec (x < w) → labels p ≡ labels q
        go (no k) d = ap labels (at_top_lem D t a (omega arith) ∙ sym (at_top_lem D t b (omega arith)))
        go (yes k) (no l) = ap labels (at_past D t w size a (omega arith) n ∙ sym (at_past D t w size b (omega arith) (λ z. n (m ∙ z))))
        go (yes k) (yes l) = (ran.tied x j l k).tied p q (at_in D t a k) (at_in D t b k) m n

    module _ (N : ℕ) (n : N ≢ 0) where
      -- with one root all edges of the net have one label
      one_root : pieces N ≤ 1 → (p q : ℕ) → net_of D p ≡ N → net_of D q ≡ N → labels p ≡ labels q
      unfolding pieces roots
      one_root c p q x y =
          by_cases (ℕ_discrete (labels p) (labels q)) (λ e. e)
          (λ e. absurd (by_cases (dec_lt (labels p) (labels q)) (λ l. omega (arith, two p q x y l)) (λ l. omega (arith, two q p y x (omega arith)))))
        where
          is : (p : ℕ) → net_of D p ≡ N → root (net_of D) labels N (labels p) ≡ true
          is p x = is_root (net_of D) labels N (labels p) (ran.faithful.keep p ∙ x) (ran.faithful.idem p)

          two : (p q : ℕ) → net_of D p ≡ N → net_of D q ≡ N → labels p < labels q → 2 ≤ roots (net_of D) labels (length D) N
          two p q x y l =
              tally_two (length D) (root (net_of D) labels N) (labels p) (labels q) l
              (inside D (labels q) (λ z. n (sym y ∙ sym (ran.faithful.keep q) ∙ z))) (is p x) (is q y)

      -- each end of an edge is linked to the edge of its label
      to_home :
          {x y : ℕ} (p : ℕ) → EndsAt t p x y → net_of D p ≡ N → Linked (vertical_of D t) (horizontal_of D t) N x y (home_x t (labels p)) (home_y t (labels p))
      unfolding Meets
      to_home p a e = rw (← e) (G.join (G.back (from_home D t a)) (ran.faithful.reach p))

      -- so the net is one piece
      one_piece : pieces N ≤ 1 → OnePiece (vertical_of D t) (horizontal_of D t) N
      one_piece c = record { linked = λ a b. go (edge_of n a) (edge_of n b) }
        where
          go : {x y x' y' : ℕ} → Edge N x y → Edge N x' y' → Linked (vertical_of D t) (horizontal_of D t) N x y x' y'
          go (edge p a e) (edge q b o) = G.join (rw (one_root c p q e o) at (to_home p a e)) (G.back (to_home q b o))

      -- the points all of whose edges in N are labelled a
      record Marked (a x y : ℕ) : Type 0 where
        marked : (p : ℕ) → EndsAt t p x y → net_of D p ≡ N → labels p ≡ a

      -- a mark goes from one end of an edge of N to the other
      marked_from : (a p x y x' y' : ℕ) → EndsAt t p x y → EndsAt t p x' y' → net_of D p ≡ N → Marked a x y → Marked a x' y'
      marked_from a p x y x' y' i i' e m =
          record { marked = λ q b o. closed q p x' y' b i' (o ∙ sym e) (λ z. n (sym o ∙ z)) ∙ m.marked p i e }

      -- and back
      both_ways : (a p x y x' y' : ℕ) → EndsAt t p x y → EndsAt t p x' y' → net_of D p ≡ N → Marked a x y ↔ Marked a x' y'
      both_ways a p x y x' y' i i' e = (marked_from a p x y x' y' i i' e, marked_from a p x' y' x y i' i e)

      -- so every link carries it
      marks : (a : ℕ) → Closed (vertical_of D t) (horizontal_of D t) N (Marked a)
      marks a = record { ups = λ {x} {y} e. go₁ x y e; rights = λ {x} {j} e. go₂ x j e }
        where
          go₁ : (x y : ℕ) → vertical_of D t x y ≡ N → Marked a x y ↔ Marked a x (suc y)
          go₁ x y e =
              by_cases (dec_le y t)
              (λ l. both_ways a (x * (2 * t + 1) + y) x y x (suc y) (foot l refl) (top l refl) (sym (vert_at D t x y l) ∙ e))
              (λ l. absurd (n (sym e ∙ vert_out D t x y (omega arith))))

          go₂ : (x j : ℕ) → horizontal_of D t x j ≡ N → Marked a x (suc j) ↔ Marked a (suc x) (suc j)
          go₂ x j e =
              by_cases (dec_lt j t)
              (λ l. both_ways a (x * (2 * t + 1) + t + 1 + j) x (suc j) (suc x) (suc j) (start l refl) (end l refl) (sym (horz_at D t x j l) ∙ e))
              (λ l. absurd (n (sym e ∙ horz_out D t x j (omega arith))))

      -- in one piece all edges have one label
      one_label : OnePiece (vertical_of D t) (horizontal_of D t) N → (p q : ℕ) → net_of D p ≡ N → net_of D q ≡ N → labels q ≡ labels p
      one_label o p q x y = go (ends_of (at_home t p)) (ends_of (at_home t q))
        where
          at_p : Marked (labels p) (home_x t p) (home_y t p)
          at_p = record { marked = λ r c m. closed r p (home_x t p) (home_y t p) c (at_home t p) (m ∙ sym x) (λ z. n (sym m ∙ z)) }

          go : Ended (net_of D p) (home_x t p) (home_y t p) → Ended (net_of D q) (home_x t q) (home_y t q) → labels q ≡ labels p
          go (ended k a) (ended k' b) = ((carried (marks (labels p)) (o.linked (rw x at a) (rw y at b))).0 at_p).marked q (at_home t q) y

      -- so there is one root
      few_roots : OnePiece (vertical_of D t) (horizontal_of D t) N → pieces N ≤ 1
      unfolding pieces roots
      few_roots o =
          tally_most (length D) (root (net_of D) labels N)
          (λ p q l k x y.
          let a = root_is (net_of D) labels N p x in
          let b = root_is (net_of D) labels N q y in
          sym a.1 ∙ one_label o q p b.0 a.0 ∙ b.1)

      -- at most one root exactly if one piece
      pub exact : (pieces N ≤ 1) ↔ OnePiece (vertical_of D t) (horizontal_of D t) N
      exact = (one_piece, few_roots)

-- a drawing has at most as many columns as entries
enough_columns : (D : List ℕ) (t : ℕ) → length D ≤ length D * (2 * t + 1)
enough_columns D t = let l : 1 ≤ 2 * t + 1 = omega arith in omega (arith, mul-le-mul_left (length D) l)

-- whether a net is one piece, by the labels of as many columns as there are entries
pub whole? : (D : List ℕ) (t N : ℕ) → N ≢ 0 → Dec (OnePiece (vertical_of D t) (horizontal_of D t) N)
whole? D t N n =
    let e = exact D t (length D) (enough_columns D t) N n in
    map_dec e.0 e.1 (dec_le (pieces D t (length D) (enough_columns D t) N) 1)
