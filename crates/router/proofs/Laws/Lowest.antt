-- The lowest net of a set is the lowest net on the tracks that passes the set's test.
use Prim.Native.Nat.{ℕ, ◌≤◌, ◌<◌}
use mathlib.Core.Path.{◌≡◌, refl, sym, ap, subst, ◌∙◌}
use mathlib.Core.Bool.{Bool, true}
use mathlib.Core.List.{List}
use mathlib.Core.Logic.{◌⊎◌, inl, inr, ⊎_elim}
use native.Mathlib.Omega.{arith}
use native.Mathlib.Decide.{ℕ_discrete, dec_lt}
use lib.ListN.{length, get_or}
use Rattle.sets.specs.Member.{member, LowestFrom}
use Rattle.sweep.specs.Tracks.{lowest_net, many}
use Rattle.pairs.specs.Working.{LeastAbove}
use Rattle.router.specs.Working.{Next}
use Rattle.grid.proofs.Counting.{holds_times, times_at}
use Rattle.grid.proofs.Tests.{not_both, below_or}
use Rattle.sweep.proofs.Tracks.Strands.{many-times}
use Rattle.sweep.proofs.Tracks.Nets.{a_net, net_least}

-- v stands on a track
abbrev pub OnTrack : ℕ → List ℕ → Type 0
OnTrack v l = (j : ℕ) × (j < length l) × (get_or l j 0 ≡ v)

-- a net with strands stands on a track
pub many_on : (v : ℕ) (tr : List ℕ) → 0 < many v tr → OnTrack v tr
many_on v tr h = times_at v tr (omega (arith, many-times v tr))

-- and the other way round
pub on_many : (v : ℕ) (tr : List ℕ) → OnTrack v tr → 0 < many v tr
on_many v tr w = omega (arith, many-times v tr, holds_times tr w.0 v w.1 w.2)

-- the lowest net that passes a test passes it, and stands on a track
net_found : (p : ℕ → Bool) (l : List ℕ) → 0 < lowest_net p l → (p (lowest_net p l) ≡ true) × OnTrack (lowest_net p l) l
net_found p l n =
    let v : ℕ = lowest_net p l in
    let w = a_net p l v (λ e. omega arith) refl in
    (w.0, times_at v l w.1)

-- numbers gathered from the tracks by a test p: each that is told passes it and stands on a track, and each net on a track that passes it is told
pub record Gathers (p : ℕ → Bool) (tr : List ℕ) (told : ℕ → Bool) : Type 0 where
  pub only : (v : ℕ) → told v ≡ true → (0 < v) × (p v ≡ true) × OnTrack v tr
  pub all : (v : ℕ) → OnTrack v tr → 0 < v → p v ≡ true → (v < 512) × (told v ≡ true)

-- the lowest of them is the lowest net that passes the test
pub least_net : (p : ℕ → Bool) (tr : List ℕ) (told : ℕ → Bool) (r : ℕ) → Gathers p tr told → LeastAbove told 0 r → r ≡ lowest_net p tr
least_net p tr told r m n = go (ℕ_discrete r 0)
  where
    -- a lowest net that is there is not below r
    above : 0 < lowest_net p tr → (r ≡ 0) ⊎ (lowest_net p tr < r) → ⊥
    above q o =
        let g = net_found p tr q in
        let b = m.all (lowest_net p tr) g.1 q g.0 in
        not_both b.1 (n.below (lowest_net p tr) q b.0 o)

    go : Dec (r ≡ 0) → r ≡ lowest_net p tr
    go (yes e) = ⊎_elim (λ (q : 0 < lowest_net p tr). absurd (above q (inl e))) (λ (q : lowest_net p tr ≤ 0). omega arith) (below_or 0 (lowest_net p tr))
    go (no d) =
        let f = m.only r (n.found d).1 in
        let l = net_least p tr f.2.0 f.2.1 (ap p f.2.2 ∙ f.1) (subst (λ (z : ℕ). 0 < z) (sym f.2.2) f.0) in
        ⊎_elim (λ (q : lowest_net p tr < r). absurd (above l.0 (inr q))) (λ (q : r ≤ lowest_net p tr). omega (arith, f.2.2, l.1)) (below_or (lowest_net p tr) r)

-- the lowest member of a set is such
next_least : (s : List ℕ) (r : ℕ) → (member s 0 ≡ true → ⊥) → Next s 0 r → LeastAbove (member s) 0 r
next_least s r z n = go (dec_lt n.place 512)
  where
    o : LowestFrom s 0 n.place
    o = n.least

    go : Dec (n.place < 512) → LeastAbove (member s) 0 r
    go (yes h) =
        let e : r ≡ n.place = omega (arith, n.is) in
        let f : member s r ≡ true = ap (member s) e ∙ o.found h in
        let pos : 0 < r = ⊎_elim (λ (q : 0 < r). q) (λ (q : r ≤ 0). absurd (z (ap (member s) (let y : 0 ≡ r = omega arith in y) ∙ f))) (below_or 0 r) in
        record { small = omega arith; found = λ d. (pos, f); below = λ v a b. ⊎_elim (λ (i : r ≡ 0). absurd (omega arith)) (λ (i : v < r). o.below v (omega arith) (omega arith)) }
    go (no h) =
        let e : n.place ≡ 512 = omega (arith, o.high) in
        let f : r ≡ 0 = omega (arith, n.is) in
        record { small = omega arith; found = λ d. absurd (d f); below = λ v a b i. o.below v (omega arith) (omega arith) }

-- so it is the lowest net that passes the test
pub lowest_net_lem : (p : ℕ → Bool) (tr s : List ℕ) (r : ℕ) → Gathers p tr (member s) → Next s 0 r → r ≡ lowest_net p tr
lowest_net_lem p tr s r m n = least_net p tr (member s) r m (next_least s r (λ e. let y = (m.only 0 e).0 in omega arith) n)
