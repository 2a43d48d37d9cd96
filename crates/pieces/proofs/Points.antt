-- The labels after the hooks of a point, of the points of a column and of the first columns: the edges at each point passed are tied, and the labels keep
-- to what is linked.
use Prim.Native.Nat.{ℕ, zero, suc, ◌+◌, ◌*◌, ◌≤◌, ◌<◌}
use mathlib.Core.Path.{◌≡◌, refl, sym, ◌∙◌, ap}
use mathlib.Core.Logic.{◌≢◌, by_cases}
use mathlib.Core.List.{List, [], ◌∷◌}
use native.Mathlib.Omega.{arith}
use native.Mathlib.Decide.{ℕ_discrete}
use Rattle.pieces.specs.Labels.{after_left, after_up, after_right, after_points, left_from, labelled}
use Rattle.pieces.proofs.Hooks.{In, head, later, Tied, tied_kept, tied_hook, Links, Faithful, faithful_start, faithful_hook}

-- the edges at an inner point, b the first entry of its column, q the first horizontal entry of the column before: right, up, left, down
abbrev pub edges : (t b q j : ℕ) → List ℕ
edges t b q j = (b + t + 1 + j) ∷ (b + j + 1) ∷ (q + j) ∷ (b + j) ∷ []

-- one edge is tied
one_tied : (net f : ℕ → ℕ) (d : ℕ) → Tied net f (d ∷ [])
one_tied net f d = record { tied = λ p q i j m o. ap f (only p i ∙ sym (only q j)) }
  where
    only : (p : ℕ) → In p (d ∷ []) → p ≡ d
    only p (head e) = e
    only p (later i) = elim i [ ]

-- after a point its edges are tied
tied_point : (net : ℕ → ℕ) (t b q j : ℕ) (f : ℕ → ℕ) → Tied net (after_right net t b q j f) (edges t b q j)
unfolding after_right after_up after_left
tied_point net t b q j f = tied_hook (b + t + 1 + j) (tied_hook (b + j + 1) (tied_hook (q + j) (one_tied net f (b + j))))

-- and those of earlier points stay so
tied_past : {net : ℕ → ℕ} (t b q j : ℕ) (f : ℕ → ℕ) (xs : List ℕ) → Tied net f xs → Tied net (after_right net t b q j f) xs
unfolding after_right after_up after_left
tied_past t b q j f xs x =
    tied_kept ((b + j + 1) ∷ (q + j) ∷ (b + j) ∷ []) (b + t + 1 + j)
    (tied_kept ((q + j) ∷ (b + j) ∷ []) (b + j + 1)
    (tied_kept ((b + j) ∷ []) (q + j) x))

-- through a column
tied_points : {net : ℕ → ℕ} (t b q j : ℕ) (f : ℕ → ℕ) (xs : List ℕ) → Tied net f xs → Tied net (after_points net t b q j f) xs
unfolding after_points
tied_points t b q zero f xs x = x
tied_points t b q (suc j) f xs x = tied_past t b q j (after_points _ t b q j f) xs (tied_points t b q j f xs x)

-- the edges at each point of a column are tied after it
tied_in_points : (net : ℕ → ℕ) (t b q j : ℕ) (f : ℕ → ℕ) (i : ℕ) → i < j → Tied net (after_points net t b q j f) (edges t b q i)
unfolding after_points
tied_in_points net t b q zero f i l = absurd (omega arith)
tied_in_points net t b q (suc j) f i l = go (λ k. tied_in_points net t b q j f i k) (ℕ_discrete i j)
  where
    go : (i < j → Tied net (after_points net t b q j f) (edges t b q i)) → Dec (i ≡ j) → Tied net (after_right net t b q j (after_points net t b q j f)) (edges t b q i)
    go r (yes e) = rw e (tied_point net t b q j (after_points net t b q j f))
    go r (no e) = tied_past t b q j (after_points net t b q j f) (edges t b q i) (r (omega arith))

-- edges of one net at a point are linked
pub record Touch (net : ℕ → ℕ) (L : ℕ → ℕ → ℕ → Type 0) (xs : List ℕ) : Type 0 where
  pub near : (e c : ℕ) → In e xs → In c xs → net e ≡ net c → net e ≢ 0 → L (net e) e c

module _ (net : ℕ → ℕ) (L : ℕ → ℕ → ℕ → Type 0) (E : Links L) where
  module _ (t b q j : ℕ) (f : ℕ → ℕ) (T : Touch net L (edges t b q j)) (g : Faithful net L f) where
    -- the first hook keeps to the links
    pub faithful₁ : Faithful net L (after_left net b q j f)
    unfolding after_left
    faithful₁ = faithful_hook net L E f ((b + j) ∷ []) (q + j) g (λ c i. T.near (q + j) c (later (later (head refl))) (later (later (later i))))

    -- the second does
    pub faithful₂ : Faithful net L (after_up net b q j f)
    unfolding after_up
    faithful₂ =
        faithful_hook net L E (after_left net b q j f) ((q + j) ∷ (b + j) ∷ []) (b + j + 1) faithful₁
        (λ c i. T.near (b + j + 1) c (later (head refl)) (later (later i)))

    -- and the third
    faithful₃ : Faithful net L (after_right net t b q j f)
    unfolding after_right
    faithful₃ =
        faithful_hook net L E (after_up net b q j f) ((b + j + 1) ∷ (q + j) ∷ (b + j) ∷ []) (b + t + 1 + j) faithful₂
        (λ c i. T.near (b + t + 1 + j) c (head refl) (later i))

  -- and so does a column
  pub faithful_points :
      (t b q j : ℕ) (f : ℕ → ℕ) → ((i : ℕ) → i < t → Touch net L (edges t b q i)) → Faithful net L f → j ≤ t → Faithful net L (after_points net t b q j f)
  unfolding after_points
  faithful_points t b q zero f T g k = g
  faithful_points t b q (suc j) f T g k = faithful₃ t b q j (after_points net t b q j f) (T j k) (faithful_points t b q j f T g (omega arith))

  -- the labels after x columns keep to the links, and the edges at each point passed are tied
  pub record Labelling (n t x : ℕ) (f : ℕ → ℕ) : Type 0 where
    pub faithful : Faithful net L f
    pub tied : (k j : ℕ) → k < x → j < t → Tied net f (edges t (k * (2 * t + 1)) (left_from n t k) j)

  module _ (n t : ℕ) (T : (k j : ℕ) → j < t → Touch net L (edges t (k * (2 * t + 1)) (left_from n t k) j)) where
    -- after any number of columns
    pub labelling : (x : ℕ) → Labelling n t x (labelled net n t x)
    unfolding labelled
    labelling zero = record { faithful = faithful_start net L E; tied = λ k j m. absurd (omega arith) }
    labelling (suc x) = go (labelling x)
      where
        go : Labelling n t x (labelled net n t x) → Labelling n t (suc x) (after_points net t (x * (2 * t + 1)) (left_from n t x) t (labelled net n t x))
        go r =
            let b = x * (2 * t + 1) in
            let q = left_from n t x in
            let f = labelled net n t x in
            record {
              faithful = faithful_points t b q t f (T x) r.faithful (omega arith);
              tied = λ k j m i.
                  by_cases (ℕ_discrete k x) (λ y. rw y (tied_in_points net t b q t f j i))
                  (λ y. tied_points t b q t f (edges t (k * (2 * t + 1)) (left_from n t k) j) (r.tied k j (omega arith) i));
            }
