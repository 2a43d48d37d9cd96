-- Two ways to meet the local condition of a column: all that a net has there leaves, or all of it lies in one run. Assumes nothing.
use Prim.Native.Nat.{ℕ, suc, ◌≤◌, ◌<◌}
use mathlib.Core.Path.{◌≡◌}
use mathlib.Core.Logic.{inl, inr}
use native.Mathlib.Omega.{arith}
use native.Mathlib.Decide.{ℕ_discrete}
use Rattle.grid.proofs.Drawings.Step.{Joined, Row, comes, foot, head, goes, Leaves, Local}

-- the head of an edge is joined to whatever its foot is joined to
widen : {U : ℕ → ℕ} {N : ℕ} (y s : ℕ) → U y ≡ N → Joined U N y s → Joined U N (suc y) s
widen {U} {N} y s e q z l m = go (ℕ_discrete z y)
  where
    go : Dec (z ≡ y) → U z ≡ N
    go (yes i) = rw i e
    go (no i) = q z (omega arith) (omega arith)

-- what leaves on a track leaves
pub leaves_on : {U R : ℕ → ℕ} {N : ℕ} (j : ℕ) → R j ≡ N → Leaves U R N (suc j)
leaves_on j e = (j, e, λ y p q. absurd (omega arith))

-- each strand and each vertical edge leaves
pub carry : {L U R : ℕ → ℕ} {N : ℕ} → ((j : ℕ) → L j ≡ N → Leaves U R N (suc j)) → ((y : ℕ) → U y ≡ N → Leaves U R N y) → Local L U R N
carry {L} {U} {R} {N} ins ups = record { pair = λ a b. inr (all a, all b) }
  where
    all : {r : ℕ} → Row L U R N r → Leaves U R N r
    all (comes {j} e) = ins j e
    all (foot {y} e) = ups y e
    all (head {y} e) = let (j, o, q) = ups y e in (j, o, widen y (suc j) e q)
    all (goes {j} e) = leaves_on j e

-- all that N has here lies in one run, from row lo to row hi
pub one_run : {L U R : ℕ → ℕ} {N : ℕ} (lo hi : ℕ)
    → ((y : ℕ) → lo ≤ y → y < hi → U y ≡ N)
    → ((j : ℕ) → L j ≡ N → (lo ≤ suc j) × (suc j ≤ hi))
    → ((y : ℕ) → U y ≡ N → (lo ≤ y) × (y < hi))
    → ((j : ℕ) → R j ≡ N → (lo ≤ suc j) × (suc j ≤ hi))
    → Local L U R N
one_run {L} {U} {R} {N} lo hi run ins ups outs =
    record { pair = λ {r} {s} a b. inl (λ y p q. run y (omega (arith, all a, all b)) (omega (arith, all a, all b))) }
  where
    all : {r : ℕ} → Row L U R N r → (lo ≤ r) × (r ≤ hi)
    all (comes {j} e) = ins j e
    all (foot {y} e) = omega (arith, ups y e)
    all (head {y} e) = omega (arith, ups y e)
    all (goes {j} e) = outs j e
