-- The pieces begun and the joins of each net while the edges are met one after the other.
use Prim.Native.Nat.{ℕ, zero, suc, ◌+◌, ◌*◌, ◌≤◌}
use mathlib.Core.Path.{◌≡◌, refl, ◌∙◌, ap}
use mathlib.Core.Bool.{Bool, true, false, ◌&&◌}
use mathlib.Core.List.{List}
use lib.ListN.{length}
use lib.Dec.{eqb}
use native.Mathlib.Omega.{arith}
use native.Mathlib.Nat.{add-zero, add-suc, add_assoc}
use native.Mathlib.Numerals.{add-one}
use Rattle.grid.specs.Channel.{bit}
use Rattle.grid.proofs.Tests.{eq-eqb}
use Rattle.pieces.specs.Labels.{tally, root, roots, net_of}
use Rattle.pieces.proofs.Roots.{tally_same}
use Rattle.checker.specs.Working.{PerNet, Grown, PieceCounted, RootsJoined, RootsBegun, edges_below, met_before, Counted, CountedTo}

-- numbers of a table that grows
pub per_net_grown : (m : ℕ) (a a' : List ℕ) → PerNet m a → Grown a a' → PerNet (m + 1) a'
per_net_grown m a a' k g = record { long = g.long ∙ k.long; most = λ N l. omega (arith, k.most N l, g.most N l) }

-- a larger bound
pub per_net_mono : (m m' : ℕ) (a : List ℕ) → PerNet m a → m ≤ m' → PerNet m' a
per_net_mono m m' a k l = record { long = k.long; most = λ N i. omega (arith, k.most N i) }

module _ (D : List ℕ) where
  -- no entry is below position 0
  edges_below_none : (N : ℕ) → edges_below D 0 N ≡ 0
  unfolding edges_below tally
  edges_below_none N = refl

  -- one entry more
  edges_below_more : (p N : ℕ) → edges_below D (p + 1) N ≡ edges_below D p N + bit (eqb (net_of D p) N)
  unfolding edges_below tally
  edges_below_more p N = rw (add-one p) (omega arith)

  -- no fewer below a higher position
  edges_below_less : (p k N : ℕ) → edges_below D p N ≤ edges_below D (p + k) N
  edges_below_less p zero N = rw (add-zero p) (omega arith)
  edges_below_less p (suc k) N = rw (add-suc p k, ← add-one (p + k)) (omega (arith, edges_below_less p k N, edges_below_more (p + k) N))

  -- where each entry is its own label all are roots
  all_roots : (n N : ℕ) → roots (net_of D) (λ p. p) n N ≡ edges_below D n N
  unfolding roots edges_below
  all_roots n N =
      tally_same n (root (net_of D) (λ p. p) N) (λ k. eqb (net_of D k) N) (λ p l. rw (eq-eqb p p refl) (both (eqb (net_of D p) N)))
    where
      both : (x : Bool) → x && true ≡ x
      both true = refl
      both false = refl

  module _ (t b : ℕ) where
    -- before the first point only the lowest edge of the column is met
    met_first : (N : ℕ) → met_before D t b 0 N ≡ edges_below D b N + bit (eqb (net_of D b) N)
    unfolding met_before
    met_first N = rw (add-zero b, add-zero (b + t + 1)) (omega (arith, edges_below_more b N))

    -- at each point the upper and the right edge
    met_next :
        (j N : ℕ) → met_before D t b (j + 1) N ≡ met_before D t b j N + bit (eqb (net_of D (b + j + 1)) N) + bit (eqb (net_of D (b + t + 1 + j)) N)
    unfolding met_before
    met_next j N =
        rw (← add_assoc b j 1, ← add_assoc (b + t + 1) j 1)
        (omega (arith, edges_below_more (b + j + 1) N, edges_below_more (b + t + 1 + j) N, edges_below_less (b + t + 1) j N))

    -- and so all edges of the column
    met_last : (N : ℕ) → met_before D t b t N ≡ edges_below D (b + 2 * t + 1) N
    unfolding met_before
    met_last N =
        let e : edges_below D (b + t + 1 + t) N ≡ edges_below D (b + 2 * t + 1) N = ap (λ (k : ℕ). edges_below D k N) (omega arith) in
        omega (arith, e, edges_below_less (b + t + 1) t N)

    -- after the lowest edge
    pub counted_first :
        (f : ℕ → ℕ) (M : ℕ) (begun begun' joined : List ℕ) → M ≡ net_of D b → CountedTo D f b begun joined → PieceCounted b b M begun begun'
        → Counted D f (met_before D t b 0) (b + 2 * 0 + 1) begun' joined
    counted_first f M begun begun' joined e c g = record {
      fits = per_net_mono (b + 1) (b + 2 * 0 + 1) begun' (per_net_grown b begun begun' c.fits g.grown) (omega arith);
      fits' = per_net_mono b (b + 2 * 0 + 1) joined c.fits' (omega arith);
      counts = λ N n l. omega (arith, c.counts N n l, rw (e, eq-eqb b b refl) at (g.counts N n l), met_first N);
    }

    -- after the edges of a point
    pub counted_next :
        (j : ℕ) (f f₁ f₂ f₃ : ℕ → ℕ) (begun begun₁ begun₂ joined joined' : List ℕ) → Counted D f (met_before D t b j) (b + 2 * j + 1) begun joined
        → RootsJoined D f f₁ joined joined' → RootsBegun D f₁ f₂ (b + j + 1) begun begun₁ → RootsBegun D f₂ f₃ (b + t + 1 + j) begun₁ begun₂
        → Counted D f₃ (met_before D t b (j + 1)) (b + 2 * (j + 1) + 1) begun₂ joined'
    counted_next j f f₁ f₂ f₃ begun begun₁ begun₂ joined joined' c i u r =
        let m = b + 2 * j + 1 in
        record {
          fits =
              per_net_mono (m + 1 + 1) (b + 2 * (j + 1) + 1) begun₂
              (per_net_grown (m + 1) begun₁ begun₂ (per_net_grown m begun begun₁ c.fits u.grown) r.grown) (omega arith);
          fits' = per_net_mono (m + 1) (b + 2 * (j + 1) + 1) joined' (per_net_grown m joined joined' c.fits' i.grown) (omega arith);
          counts = λ N n l. omega (arith, c.counts N n l, i.counts N l, u.counts N n l, r.counts N n l, met_next j N);
        }

    -- after the last point
    pub counted_last :
        (f : ℕ → ℕ) (begun joined : List ℕ) → Counted D f (met_before D t b t) (b + 2 * t + 1) begun joined
        → CountedTo D f (b + 2 * t + 1) begun joined
    counted_last f begun joined c =
        record { fits = c.fits; fits' = c.fits'; counts = λ N n l. omega (arith, c.counts N n l, met_last N) }

  -- at first, with tables of zeros
  pub counted_start : (begun joined : List ℕ) → PerNet 0 begun → PerNet 0 joined → CountedTo D (λ p. p) 0 begun joined
  counted_start begun joined x y = record {
    fits = x;
    fits' = y;
    counts = λ N n l. omega (arith, x.most N l, y.most N l, all_roots (length D) N, edges_below_none N);
  }
