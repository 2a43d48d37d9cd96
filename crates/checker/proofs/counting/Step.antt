-- One point: what the labels and tables hold after its left, its upper and its right edge.
use Prim.Native.Nat.{ℕ, suc, ◌+◌, ◌<◌}
use mathlib.Core.Path.{◌≡◌, refl, sym, ◌∙◌, ap}
use mathlib.Core.Logic.{◌≢◌, ◌⊎◌, inl, inr, by_cases}
use mathlib.Core.List.{List, [], ◌∷◌}
use lib.ListN.{length, get_or, set, length-set}
use lib.Seq.{get_or-set_same, get_or-set_other}
use native.Mathlib.Omega.{arith}
use native.Mathlib.Decide.{ℕ_discrete}
use native.Mathlib.Numerals.{add-one}
use Rattle.grid.proofs.Tests.{eq-eqb}
use Rattle.pieces.specs.Labels.{sub, target, hook, roots, labelled, after_points, after_left, after_up, after_right, net_of, lost}
use Rattle.pieces.proofs.Hooks.{sub_self, sub_new, hook_is, Faithful}
use Rattle.pieces.proofs.Points.{edges, Touch, faithful₁, faithful₂, faithful_points, labelling}
use Rattle.pieces.proofs.Alone.{Alone, hook-alone, hook_self, Ahead, left_not, alone₁, alone₂, ahead_points, fresh}
use Rattle.pieces.proofs.Roots.{roots-hook}
use Rattle.pieces.proofs.Edges.{Meets, meets_links, inside, touch}
use Rattle.checker.specs.Working.{ColumnAt, seen, seen₁, seen₂, seen₃, Labs, Labels, Labels₁, Labels₂, Labels₃, Merged, chosen}
use Rattle.checker.specs.Working.{JoinCounted, PieceCounted, RootsJoined, RootsBegun, JoinsLeft, BeginsUp, BeginsRight, State}
use Rattle.checker.proofs.counting.Arrays.{chosen_zero, chosen_either, target_zero, chosen_none, chosen_more}
use Rattle.checker.proofs.counting.Counts.{counted_next}
use Rattle.checker.proofs.counting.Positions.{room, left_is, index}

module _ (D : List ℕ) (t b q : ℕ) (C : ColumnAt D t b q) where
  -- the edges of one net at each point are linked
  touches : (i : ℕ) → i < t → Touch (net_of D) (Meets D t) (edges t b q i)
  touches i k = rw (C.base, C.before) (touch D t C.x i k)

  module _ (j : ℕ) (row : j < t) where
    -- the labels before the point keep to the links
    faithful₀ : Faithful (net_of D) (Meets D t) (seen D t b q j)
    unfolding seen
    faithful₀ =
        rw (index D t b q C)
        (faithful_points (net_of D) (Meets D t) (meets_links D t) t b q j (labelled (net_of D) (length D) t C.x) touches
        (labelling (net_of D) (Meets D t) (meets_links D t) (length D) t (touch D t) C.x).faithful (omega arith))

    -- and later edges are alone
    ahead : Ahead (length D) t b j (seen D t b q j)
    unfolding seen
    ahead =
        rw (index D t b q C)
        (ahead_points (net_of D) (length D) t b q j (labelled (net_of D) (length D) t C.x) (left_is D t b q C)
        (record { alone = λ p l k s. fresh (net_of D) (length D) t C.x p l (omega (arith, C.base)) }) (omega arith))

    -- so the upper edge is alone before it is hooked
    pub alone_up : Alone (seen₁ D t b q j) (b + j + 1)
    alone_up =
        alone₁ (net_of D) (length D) t b q j (seen D t b q j) (left_is D t b q C) row (b + j + 1) (omega (arith, room D t b q C)) (omega arith)
        (ahead.alone (b + j + 1) (omega (arith, room D t b q C)) (omega arith) (inl (omega arith)))

    -- and the right one
    pub alone-right : Alone (seen₂ D t b q j) (b + t + 1 + j)
    alone-right =
        alone₂ (net_of D) (length D) t b q j (seen D t b q j) (left_is D t b q C) row (b + t + 1 + j) (omega (arith, room D t b q C)) (omega arith) (omega arith)
        (ahead.alone (b + t + 1 + j) (omega (arith, room D t b q C)) (omega arith) (inr (omega arith)))

    -- a step from the labels f to f' that gives edge p the label l for a, by what the roots lose
    record Given (f f' : ℕ → ℕ) (p a l : ℕ) : Type 0 where
      losses : (N : ℕ) → roots (net_of D) f (length D) N ≡ roots (net_of D) f' (length D) N + lost a l (net_of D p) N

    -- the joins after it
    joins :
        (f f' : ℕ → ℕ) (p a l n : ℕ) (joined joined' : List ℕ) → Given f f' p a l → n ≡ net_of D p → JoinCounted a l n joined joined'
        → RootsJoined D f f' joined joined'
    joins f f' p a l n joined joined' g e k =
        record { grown = k.grown; counts = λ N i. omega (arith, g.losses N, rw e at (k.counts N i)) }

    -- the pieces begun after it
    begins :
        (f f' : ℕ → ℕ) (p a l n : ℕ) (begun begun' : List ℕ) → Given f f' p a l → n ≡ net_of D p → PieceCounted a l n begun begun'
        → RootsBegun D f f' p begun begun'
    begins f f' p a l n begun begun' g e k =
        record { grown = k.grown; counts = λ N z i. omega (arith, g.losses N, rw e at (k.counts N z i)) }

    -- the left edge, of which the code knows the label ll if it is an edge
    record LeftStep (ll nl : ℕ) : Type 0 where
      given : Given (seen D t b q j) (seen₁ D t b q j) (q + j) ll nl
      edge : net_of D (q + j) ≢ 0 → nl ≡ seen₁ D t b q j (q + j)
      sent : (p : ℕ) → sub ll nl (seen D t b q j p) ≡ seen₁ D t b q j p

    -- what the code's choice does to it
    left_step :
        (vl ll : ℕ) → (net_of D (b + j) ≢ 0 → vl ≡ seen D t b q j (b + j)) → (net_of D (q + j) ≢ 0 → ll ≡ seen D t b q j (q + j))
        → LeftStep ll (chosen (net_of D (q + j)) (net_of D (b + j)) vl ll)
    unfolding after_left
    left_step vl ll v a =
        let net = net_of D in
        let f = seen D t b q j in
        let cs = (b + j) ∷ [] in
        let l = q + j in
        let loss : Given f (hook net f cs l) l (f l) (target net f cs l) =
        record { losses = λ N. roots-hook net (Meets D t) (length D) (inside D) f cs l N faithful₀ }
        in
        by_cases (ℕ_discrete (net l) 0)
        (λ z.
        let o : target net f cs l ≡ f l = target_zero net f cs l z in
        rw (chosen_zero (net l) (net (b + j)) vl ll z)
        (record {
          given = record { losses = λ N. rw (eq-eqb ll ll refl) (rw (o, eq-eqb (f l) (f l) refl) at (loss.losses N)) };
          edge = λ n. absurd (n z);
          sent = λ p. sub_self ll (f p) ∙ sym (hook_is net f cs l p ∙ ap (λ (k : ℕ). sub (f l) k (f p)) o ∙ sub_self (f l) (f p));
        }))
        (λ n.
        let e : chosen (net l) (net (b + j)) vl ll ≡ target net f cs l =
        chosen_more net f (b + j) [] l vl ll v (a n ∙ sym (chosen_none net f l))
        in
        rw (e, a n)
        (record { given = loss; edge = λ k. sym (hook_self net f cs l); sent = λ p. sym (hook_is net f cs l p) }))

    -- a step that hooks edge e, which then has the label l
    record Hooked (f f' : ℕ → ℕ) (e l : ℕ) : Type 0 where
      given : Given f f' e e l
      edge : l ≡ f' e

    -- an edge that is alone takes the label of its target
    hooked :
        (f : ℕ → ℕ) (cs : List ℕ) (e l : ℕ) → Faithful (net_of D) (Meets D t) f → Alone f e → l ≡ target (net_of D) f cs e
        → Hooked f (hook (net_of D) f cs e) e l
    hooked f cs e l g a o =
        rw o
        (record {
          given = record { losses = λ N. rw a.mine at (roots-hook (net_of D) (Meets D t) (length D) (inside D) f cs e N g) };
          edge = sym (hook_self (net_of D) f cs e);
        })

    module _
        (vl vd ln ll nl : ℕ) (lab : List ℕ) (s : Labels D t b q j vl lab)
        (e₁ : vd ≡ net_of D (b + j)) (e₂ : ln ≡ net_of D (q + j)) (e₃ : ll ≡ get_or lab j 0) (e : nl ≡ chosen ln vd vl ll)
      where
        label : nl ≡ chosen (net_of D (q + j)) (net_of D (b + j)) vl ll
        label = cc

        left_made : LeftStep ll nl
        left_made = rw label (left_step vl ll s.down (λ n. e₃ ∙ s.labs.todo j (omega arith) row n))

        -- what holds after the left edge
        pub left_given :
            (lab' joined joined' : List ℕ) → Merged ll nl t lab lab' → JoinCounted ll nl ln joined joined'
            → Labels₁ D t b q j vl nl × (Labs D t b q j (seen₁ D t b q j) lab' × JoinsLeft D t b q j joined joined')
        left_given lab' joined joined' y z =
            let r = left_made in (
              record {
                down = λ n.
                    sym
                    (sym (r.sent (b + j)) ∙ ap (sub ll nl) (sym (s.down n))
                    ∙ rw label (still (chosen_either (net_of D (q + j)) (net_of D (b + j)) vl ll)));
                left = r.edge;
              },
              (
                record {
                  long = y.long ∙ s.labs.long;
                  done = λ k l n. y.at k (omega arith) ∙ ap (sub ll nl) (s.labs.done k l n) ∙ r.sent (b + t + 1 + k);
                  todo = λ k l m n. y.at k m ∙ ap (sub ll nl) (s.labs.todo k l m n) ∙ r.sent (q + k);
                },
                joins (seen D t b q j) (seen₁ D t b q j) (q + j) ll nl ln joined joined' r.given e₂ z,
              ),
            )
          where
            still : {c : ℕ} → (c ≡ vl) ⊎ (c ≡ ll) → sub ll c vl ≡ vl
            still (inl o) = rw o (sub_new ll vl)
            still (inr o) = rw o (sub_self ll vl)

    -- the upper edge changes no other label
    up_else : (p : ℕ) → p ≢ b + j + 1 → seen₂ D t b q j p ≡ seen₁ D t b q j p
    unfolding after_up
    up_else p n = hook-alone (net_of D) (seen₁ D t b q j) ((q + j) ∷ (b + j) ∷ []) (b + j + 1) p alone_up n

    module _
        (vl nl vd ln vu o ul : ℕ) (s : Labels₁ D t b q j vl nl)
        (e₁ : vd ≡ net_of D (b + j)) (e₂ : ln ≡ net_of D (q + j)) (e₃ : vu ≡ net_of D (b + j + 1))
        (e₄ : o ≡ chosen vu vd vl (b + j + 1)) (e : ul ≡ chosen vu ln nl o)
      where
        up_made : Hooked (seen₁ D t b q j) (seen₂ D t b q j) (b + j + 1) ul
        unfolding after_up
        up_made =
            let net = net_of D in
            let f = seen₁ D t b q j in
            let u = b + j + 1 in
            let x : ul ≡ chosen (net u) (net (q + j)) nl (chosen (net u) (net (b + j)) vl u) = cc in
            let y = chosen_more net f (b + j) [] u vl u s.down (sym (chosen_none net f u ∙ alone_up.mine)) in
            let z = chosen_more net f (q + j) ((b + j) ∷ []) u nl (chosen (net u) (net (b + j)) vl u) s.left y in
            hooked f ((q + j) ∷ (b + j) ∷ []) u ul
            (faithful₁ net (Meets D t) (meets_links D t) t b q j (seen D t b q j) (touches j row) faithful₀) alone_up (x ∙ z)

        -- what holds after the upper edge
        pub up_given :
            (begun begun' : List ℕ) → PieceCounted (b + j + 1) ul vu begun begun' → Labels₂ D t b q j vl nl ul × BeginsUp D t b q j begun begun'
        up_given begun begun' z = (
          record {
            down = λ n. s.down n ∙ sym (up_else (b + j) (omega arith));
            left = λ n. s.left n ∙ sym (up_else (q + j) (left_not (length D) t b q j (b + j + 1) (left_is D t b q C) row (omega (arith, room D t b q C)) (omega arith)));
            up = λ n. up_made.edge;
          },
          begins (seen₁ D t b q j) (seen₂ D t b q j) (b + j + 1) (b + j + 1) ul vu begun begun' up_made.given e₃ z,
        )

    -- the right edge changes no other label
    right_else : (p : ℕ) → p ≢ b + t + 1 + j → seen₃ D t b q j p ≡ seen₂ D t b q j p
    unfolding after_right
    right_else p n = hook-alone (net_of D) (seen₂ D t b q j) ((b + j + 1) ∷ (q + j) ∷ (b + j) ∷ []) (b + t + 1 + j) p alone-right n

    module _
        (vl nl ul vd ln vu rn o p rl : ℕ) (s : Labels₂ D t b q j vl nl ul)
        (e₁ : vd ≡ net_of D (b + j)) (e₂ : ln ≡ net_of D (q + j)) (e₃ : vu ≡ net_of D (b + j + 1)) (e₄ : rn ≡ net_of D (b + t + 1 + j))
        (e₅ : o ≡ chosen rn vd vl (b + t + 1 + j)) (e₆ : p ≡ chosen rn ln nl o) (e : rl ≡ chosen rn vu ul p)
      where
        right_made : Hooked (seen₂ D t b q j) (seen₃ D t b q j) (b + t + 1 + j) rl
        unfolding after_right
        right_made =
            let net = net_of D in
            let f = seen₂ D t b q j in
            let r = b + t + 1 + j in
            let c₁ = chosen (net r) (net (b + j)) vl r in
            let c₂ = chosen (net r) (net (q + j)) nl c₁ in
            let x : rl ≡ chosen (net r) (net (b + j + 1)) ul c₂ = cc in
            let y₁ = chosen_more net f (b + j) [] r vl r s.down (sym (chosen_none net f r ∙ alone-right.mine)) in
            let y₂ = chosen_more net f (q + j) ((b + j) ∷ []) r nl c₁ s.left y₁ in
            let y₃ = chosen_more net f (b + j + 1) ((q + j) ∷ (b + j) ∷ []) r ul c₂ s.up y₂ in
            hooked f ((b + j + 1) ∷ (q + j) ∷ (b + j) ∷ []) r rl
            (faithful₂ net (Meets D t) (meets_links D t) t b q j (seen D t b q j) (touches j row) faithful₀) alone-right (x ∙ y₃)

        -- what holds after the right edge
        pub right_given :
            (begun begun' : List ℕ) → PieceCounted (b + t + 1 + j) rl rn begun begun' → Labels₃ D t b q j ul rl × BeginsRight D t b q j begun begun'
        right_given begun begun' z = (
          record { up = λ n. s.up n ∙ sym (right_else (b + j + 1) (omega arith)); right = λ n. right_made.edge },
          begins (seen₂ D t b q j) (seen₃ D t b q j) (b + t + 1 + j) (b + t + 1 + j) rl rn begun begun' right_made.given e₄ z,
        )

    -- other labels change at the left edge only
    both_else : (p : ℕ) → p ≢ b + j + 1 → p ≢ b + t + 1 + j → seen₃ D t b q j p ≡ seen₁ D t b q j p
    both_else p m n = right_else p n ∙ up_else p m

    -- after the right edge's label is stored the next point is due
    next_labels :
        (ul rl : ℕ) (lab : List ℕ) → Labs D t b q j (seen₁ D t b q j) lab → Labels₃ D t b q j ul rl → Labels D t b q (j + 1) ul (set lab j rl)
    unfolding seen after_points
    next_labels ul rl lab L s =
        rw (add-one j)
        (record {
          down = λ n. let e : b + j + 1 ≡ b + suc j = omega arith in s.up (rw e n) ∙ ap (seen₃ D t b q j) e;
          labs = record {
            long = length-set lab j rl ∙ L.long;
            done = λ k l n. by_cases (ℕ_discrete k j) (here k n) (before k l n);
            todo = λ k l i n.
                get_or-set_other lab j k rl 0 (omega arith) ∙ L.todo k (omega arith) i n
                ∙ sym
                (both_else (q + k) (left_not (length D) t b q k (b + j + 1) (left_is D t b q C) i (omega (arith, room D t b q C)) (omega arith))
                (left_not (length D) t b q k (b + t + 1 + j) (left_is D t b q C) i (omega (arith, room D t b q C)) (omega arith)));
          };
        })
      where
        here : (k : ℕ) → net_of D (b + t + 1 + k) ≢ 0 → k ≡ j → get_or (set lab j rl) k 0 ≡ seen₃ D t b q j (b + t + 1 + k)
        here k n e = rw e (get_or-set_same lab j rl 0 (omega (arith, L.long, C.within.high)) ∙ s.right (rw e at n))

        before : (k : ℕ) → k < suc j → net_of D (b + t + 1 + k) ≢ 0 → k ≢ j → get_or (set lab j rl) k 0 ≡ seen₃ D t b q j (b + t + 1 + k)
        before k l n e = get_or-set_other lab j k rl 0 e ∙ L.done k (omega arith) n ∙ sym (both_else (b + t + 1 + k) (omega arith) (omega arith))

    -- the labels then
    seen_next : seen D t b q (j + 1) ≡ seen₃ D t b q j
    unfolding seen after_points
    seen_next = rw (add-one j)

    -- with the tables
    pub next_state :
        (vl ul rl : ℕ) (lab lab' begun begun₁ begun₂ joined joined' : List ℕ) → State D t b q j vl lab begun joined
        → Labs D t b q j (seen₁ D t b q j) lab' → Labels₃ D t b q j ul rl → JoinsLeft D t b q j joined joined' → BeginsUp D t b q j begun begun₁
        → BeginsRight D t b q j begun₁ begun₂ → State D t b q (j + 1) ul (set lab' j rl) begun₂ joined'
    next_state vl ul rl lab lab' begun begun₁ begun₂ joined joined' s L k i u r = record {
      labels = next_labels ul rl lab' L k;
      counted = rw seen_next
          (counted_next D t b j (seen D t b q j) (seen₁ D t b q j) (seen₂ D t b q j) (seen₃ D t b q j) begun begun₁ begun₂ joined joined'
          s.counted i u r);
    }
