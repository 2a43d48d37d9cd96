-- Edges that no hook has reached yet: each is its own label and no other's.
use Prim.Native.Nat.{ℕ, zero, suc, ◌+◌, ◌*◌, ◌≤◌, ◌<◌}
use mathlib.Core.Path.{◌≡◌, refl, sym, ◌∙◌, ap}
use mathlib.Core.Logic.{◌≢◌, ◌⊎◌, inl, inr, ⊎_elim, by_cases}
use mathlib.Core.List.{List, [], ◌∷◌}
use native.Mathlib.Omega.{arith}
use native.Mathlib.Decide.{ℕ_discrete}
use Rattle.pieces.specs.Labels.{sub, target, hook, after_left, after_up, after_right, after_points, left_from, labelled}
use Rattle.pieces.proofs.Hooks.{sub_hit, sub_miss, In, head, later, hook_is, Target, own, from, target_is}

-- an edge that no other has met
pub record Alone (f : ℕ → ℕ) (p : ℕ) : Type 0 where
  pub mine : f p ≡ p
  pub only : (q : ℕ) → f q ≡ p → q ≡ p

-- a hook of other edges leaves it alone
alone-hook :
    (net f : ℕ → ℕ) (cs : List ℕ) (e p : ℕ) → Alone f p → e ≢ p → ((q : ℕ) → In q cs → q ≢ p) → Alone (hook net f cs e) p
alone-hook net f cs e p a x y = go (target net f cs e) (target_is net f cs e) (hook_is net f cs e)
  where
    not_b_lem : {b : ℕ} → Target net f cs e b → b ≢ p
    not_b_lem (own z) w = x (a.only e (sym z ∙ w))
    not_b_lem (from q i m o z) w = y q i (a.only q (sym z ∙ w))

    go : (b : ℕ) → Target net f cs e b → ((q : ℕ) → hook net f cs e q ≡ sub (f e) b (f q)) → Alone (hook net f cs e) p
    go b r h = record {
      mine = h p ∙ ap (sub (f e) b) a.mine ∙ sub_miss (f e) b p (λ z. x (a.only e (sym z)));
      only = λ q z.
          by_cases (ℕ_discrete (f q) (f e)) (λ w. absurd (not_b_lem r (sym (sub_hit (f e) b (f q) w) ∙ sym (h q) ∙ z)))
          (λ w. a.only q (sym (sub_miss (f e) b (f q) w) ∙ sym (h q) ∙ z));
    }

-- an edge that is alone takes the target's label, and no other label changes
pub hook-alone : (net f : ℕ → ℕ) (cs : List ℕ) (e p : ℕ) → Alone f e → p ≢ e → hook net f cs e p ≡ f p
hook-alone net f cs e p a n = hook_is net f cs e p ∙ sub_miss (f e) (target net f cs e) (f p) (λ x. n (a.only p (x ∙ a.mine)))

-- a hooked edge has the target's label
pub hook_self : (net f : ℕ → ℕ) (cs : List ℕ) (e : ℕ) → hook net f cs e e ≡ target net f cs e
hook_self net f cs e = hook_is net f cs e e ∙ sub_hit (f e) (target net f cs e) (f e) refl

-- of n entries, the edges alone after j points of the column at b: its upper vertical ones, its horizontal ones from j on, and all later ones
pub record Ahead (n t b j : ℕ) (f : ℕ → ℕ) : Type 0 where
  pub alone : (p : ℕ) → p < n → b + j < p → (p ≤ b + t) ⊎ (b + t + 1 + j ≤ p) → Alone f p

-- the left edge is of an earlier column, or past the end
pub data Left (n t b q : ℕ) : Type 0 where
  earlier : q + t ≤ b → Left n t b q
  past : n ≤ q → Left n t b q

-- so it is no edge of this column
pub left_not : (n t b q j p : ℕ) → Left n t b q → j < t → p < n → b < p → q + j ≢ p
left_not n t b q j p (earlier e) k l m = omega arith
left_not n t b q j p (past e) k l m = omega arith

-- one edge other than p
one_of : {p a : ℕ} → p ≢ a → (q : ℕ) → In q (a ∷ []) → q ≢ p
one_of x q (head e) = λ y. x (sym y ∙ e)
one_of x q (later i) = elim i [ ]

-- and several
more_of : {p a : ℕ} {cs : List ℕ} → p ≢ a → ((q : ℕ) → In q cs → q ≢ p) → (q : ℕ) → In q (a ∷ cs) → q ≢ p
more_of x h q (head e) = λ y. x (sym y ∙ e)
more_of x h q (later i) = h q i

module _ (net : ℕ → ℕ) (n t b q j : ℕ) (f : ℕ → ℕ) (L : Left n t b q) (below : j < t) where
  -- what stays alone after the first hook of a point
  pub alone₁ : (p : ℕ) → p < n → b + j < p → Alone f p → Alone (after_left net b q j f) p
  unfolding after_left
  alone₁ p l k a = alone-hook net f ((b + j) ∷ []) (q + j) p a (left_not n t b q j p L below l (omega arith)) (one_of (omega arith))

  -- after the second
  pub alone₂ : (p : ℕ) → p < n → b + j < p → p ≢ b + j + 1 → Alone f p → Alone (after_up net b q j f) p
  unfolding after_up
  alone₂ p l k m a =
      alone-hook net (after_left net b q j f) ((q + j) ∷ (b + j) ∷ []) (b + j + 1) p (alone₁ p l k a) (λ e. m (sym e))
      (more_of (λ e. left_not n t b q j p L below l (omega arith) (sym e)) (one_of (omega arith)))

  -- after the third
  alone₃ : (p : ℕ) → p < n → b + j < p → p ≢ b + j + 1 → p ≢ b + t + 1 + j → Alone f p → Alone (after_right net t b q j f) p
  unfolding after_right
  alone₃ p l k m o a =
      alone-hook net (after_up net b q j f) ((b + j + 1) ∷ (q + j) ∷ (b + j) ∷ []) (b + t + 1 + j) p (alone₂ p l k m a) (λ e. o (sym e))
      (more_of m (more_of (λ e. left_not n t b q j p L below l (omega arith) (sym e)) (one_of (omega arith))))

  -- one point more
  ahead_point : Ahead n t b j f → Ahead n t b (suc j) (after_right net t b q j f)
  ahead_point a = record {
    alone = λ p l k s.
        ⊎_elim (λ (e : p ≤ b + t). alone₃ p l (omega arith) (omega arith) (omega arith) (a.alone p l (omega arith) (inl e)))
        (λ (e : b + t + 1 + suc j ≤ p). alone₃ p l (omega arith) (omega arith) (omega arith) (a.alone p l (omega arith) (inr (omega arith)))) s;
  }

-- through a column
pub ahead_points :
    (net : ℕ → ℕ) (n t b q j : ℕ) (f : ℕ → ℕ) → Left n t b q → Ahead n t b 0 f → j ≤ t → Ahead n t b j (after_points net t b q j f)
unfolding after_points
ahead_points net n t b q zero f l a k = a
ahead_points net n t b q (suc j) f l a k =
    ahead_point net n t b q j (after_points net t b q j f) l k (ahead_points net n t b q j f l a (omega arith))

-- the left edges of column x
pub left_of_lem : (n t x : ℕ) → Left n t (x * (2 * t + 1)) (left_from n t x)
unfolding left_from
left_of_lem n t zero = past (omega arith)
left_of_lem n t (suc x) = earlier (let e : suc x * (2 * t + 1) ≡ x * (2 * t + 1) + (2 * t + 1) = omega arith in omega arith)

-- after x columns all later edges are alone
pub fresh : (net : ℕ → ℕ) (n t x : ℕ) (p : ℕ) → p < n → x * (2 * t + 1) ≤ p → Alone (labelled net n t x) p
unfolding labelled
fresh net n t zero p l k = record { mine = refl; only = λ q e. e }
fresh net n t (suc x) p l k =
    let e : suc x * (2 * t + 1) ≡ x * (2 * t + 1) + (2 * t + 1) = omega arith in
    (ahead_points net n t (x * (2 * t + 1)) (left_from n t x) t (labelled net n t x) (left_of_lem n t x)
    (record { alone = λ p l k s. fresh net n t x p l (omega arith) }) (omega arith)).alone p l (omega arith) (inr (omega arith))
