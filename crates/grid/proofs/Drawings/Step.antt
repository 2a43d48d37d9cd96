-- The column step: from local conditions on each column, that the edges of a net are one piece. Assumes nothing.
use Prim.Native.Nat.{ℕ, zero, suc, ◌+◌, ◌-◌, ◌≤◌, ◌<◌, min, max}
use mathlib.Core.Path.{◌≡◌, sym}
use mathlib.Core.Logic.{◌≢◌, ◌⊎◌, inl, inr, ⊎_elim}
use native.Mathlib.Omega.{arith}
use native.Mathlib.Decide.{dec_lt, dec_le, ℕ_discrete}
use native.Mathlib.Nat.{add-zero, add-suc}
use Rattle.grid.specs.Grid.{Linked, here, up, across, back, join, Ends, low, high, near, far, OnePiece, comes_to}

-- A COLUMN BY ITSELF: L are the entries that come in, U the vertical ones, R those that leave

-- every vertical entry between the rows r and s is N
abbrev pub Joined : (U : ℕ → ℕ) (N r s : ℕ) → Type 0
Joined U N r s = (y : ℕ) → min r s ≤ y → y < max r s → U y ≡ N

-- N has an edge at row r
pub data Row (L U R : ℕ → ℕ) (N : ℕ) : ℕ → Type 0 where
  comes : {j : ℕ} → L j ≡ N → Row L U R N (suc j)
  foot : {y : ℕ} → U y ≡ N → Row L U R N y
  head : {y : ℕ} → U y ≡ N → Row L U R N (suc y)
  goes : {j : ℕ} → R j ≡ N → Row L U R N (suc j)

-- row r is joined to an entry that leaves
abbrev pub Leaves : (U R : ℕ → ℕ) (N r : ℕ) → Type 0
Leaves U R N r = (j : ℕ) × (R j ≡ N) × Joined U N r (suc j)

-- THE LOCAL CONDITION: any two rows of N are joined, or both leave
pub record Local (L U R : ℕ → ℕ) (N : ℕ) : Type 0 where
  pub pair : {r s : ℕ} → Row L U R N r → Row L U R N s → Joined U N r s ⊎ (Leaves U R N r × Leaves U R N s)

-- JOINED ROWS OF A COLUMN ARE LINKED

-- upward over d entries
climb : (v h : ℕ → ℕ → ℕ) (N x r d : ℕ) → ((y : ℕ) → r ≤ y → y < r + d → v x y ≡ N) → Linked v h N x r x (r + d)
climb v h N x r zero all = rw add-zero here
climb v h N x r (suc d) all = rw add-suc (join (climb v h N x r d (λ y p q. all y p (omega arith))) (up (all (r + d) (omega arith) (omega arith))))

-- up to a row
climb_to : (v h : ℕ → ℕ → ℕ) (N x r s : ℕ) → r ≤ s → ((y : ℕ) → r ≤ y → y < s → v x y ≡ N) → Linked v h N x r x s
climb_to v h N x r s p all =
    let e : r + (s - r) ≡ s = omega arith in
    rw e at (climb v h N x r (s - r) (λ y a b. all y a (omega arith)))

-- up or down
joined_linked : {v h : ℕ → ℕ → ℕ} {N x r s : ℕ} → Joined (v x) N r s → Linked v h N x r x s
joined_linked {v} {h} {N} {x} {r} {s} all = go (dec_le r s)
  where
    go : Dec (r ≤ s) → Linked v h N x r x s
    go (yes p) = climb_to v h N x r s p (λ y a b. all y (omega arith) (omega arith))
    go (no p) = back (climb_to v h N x s r (omega arith) (λ y a b. all y (omega arith) (omega arith)))

-- A DRAWING: v are its vertical entries, h its horizontal ones, by column

module _ (v h : ℕ → ℕ → ℕ) (N : ℕ) where
  -- an edge of N in the columns before k ends at the point x, y
  abbrev pub Before : ℕ → ℕ → ℕ → Type 0
  Before k x y = (i : ℕ) × (i < k) × Ends v h N i x y

  -- the point is linked to a strand that comes into column k
  abbrev pub Strand : ℕ → ℕ → ℕ → Type 0
  Strand k x y = (j : ℕ) × (comes_to h k j ≡ N) × Linked v h N x y k (suc j)

  -- the point is linked to a row of N in column k
  abbrev At : ℕ → ℕ → ℕ → Type 0
  At k x y = (r : ℕ) × Row (comes_to h k) (v k) (h k) N r × Linked v h N x y k r

  -- two points are linked, or each is linked to a strand that comes into column k
  abbrev pub Paired : ℕ → ℕ → ℕ → ℕ → ℕ → Type 0
  Paired k x y x' y' = Linked v h N x y x' y' ⊎ (Strand k x y × Strand k x' y')

  -- THE INVARIANT: so are any two points before k
  pub record Good (k : ℕ) : Type 0 where
    pub pair : {x y x' y' : ℕ} → Before k x y → Before k x' y' → Paired k x y x' y'

  -- N does not start anew: where it has points before k and an edge in column k, a strand comes in
  pub record Met (k : ℕ) : Type 0 where
    pub met : {x y x' y' : ℕ} → Before k x y → Ends v h N k x' y' → (j : ℕ) × (comes_to h k j ≡ N)

  -- an edge's end in column k is at a row
  ends_at : {k x y : ℕ} → Ends v h N k x y → At k x y
  ends_at (low {y} e) = (y, foot e, here)
  ends_at (high {y} e) = (suc y, head e, here)
  ends_at (near {j} e) = (suc j, goes e, here)
  ends_at (far {j} e) = (suc j, goes e, back (across e))

  -- and so is a strand that comes in
  strand_at : {k x y : ℕ} → Strand k x y → At k x y
  strand_at (j, e, l) = (suc j, comes e, l)

  -- a row that leaves is linked to a strand of the next column
  leave : {k x y r : ℕ} → Linked v h N x y k r → Leaves (v k) (h k) N r → Strand (suc k) x y
  leave l (j, e, q) = (j, e, join l (join (joined_linked q) (across e)))

  -- the local condition on two such points
  at_pair : {k x y x' y' : ℕ} → Local (comes_to h k) (v k) (h k) N → At k x y → At k x' y' → Paired (suc k) x y x' y'
  at_pair c (r, a, l) (r', a', l') =
      ⊎_elim (λ q. inl (join l (join (joined_linked q) (back l')))) (λ q. inr (leave l q.0, leave l' q.1)) (c.pair a a')

  -- a point before the next column was one before, or is an edge's end in this
  age : {k x y : ℕ} → Before (suc k) x y → Before k x y ⊎ Ends v h N k x y
  age {k} {x} {y} (i, p, e) = go (dec_lt i k)
    where
      go : Dec (i < k) → Before k x y ⊎ Ends v h N k x y
      go (yes q) = inl (i, q, e)
      go (no q) = let a : i ≡ k = omega arith in inr (rw a at e)

  module _ (n : N ≢ 0) where
    -- a strand ends an edge of the column before
    strand_before : (k j : ℕ) → comes_to h k j ≡ N → Before k k (suc j)
    strand_before zero j e = absurd (n (sym e))
    strand_before (suc k) j e = (k, omega arith, far e)

    -- where a strand of N comes in, each point before is linked to one
    old_strand : {k x y : ℕ} → Good k → (j : ℕ) × (comes_to h k j ≡ N) → Before k x y → Strand k x y
    old_strand {k} g (j, e) b = ⊎_elim (λ l. (j, e, l)) (λ q. q.0) (g.pair b (strand_before k j e))

    -- THE STEP
    pub step : {k : ℕ} → Local (comes_to h k) (v k) (h k) N → Met k → Good k → Good (suc k)
    step {k} c m g = record { pair = λ b b'. go (age b) (age b') }
      where
        old : {x y x' y' : ℕ} → Before k x y → Ends v h N k x' y' → At k x y
        old b e = strand_at (old_strand g (m.met b e) b)

        go : {x y x' y' : ℕ} → Before k x y ⊎ Ends v h N k x y → Before k x' y' ⊎ Ends v h N k x' y' → Paired (suc k) x y x' y'
        go (inl b) (inl b') = ⊎_elim (λ l. inl l) (λ q. at_pair c (strand_at q.0) (strand_at q.1)) (g.pair b b')
        go (inl b) (inr e) = at_pair c (old b e) (ends_at e)
        go (inr e) (inl b) = at_pair c (ends_at e) (old b e)
        go (inr e) (inr e') = at_pair c (ends_at e) (ends_at e')

    -- so it holds after every column
    good : ((k : ℕ) → Local (comes_to h k) (v k) (h k) N) → ((k : ℕ) → Met k) → (k : ℕ) → Good k
    good c m zero = record { pair = λ b b'. absurd (omega (arith, b.1)) }
    good c m (suc k) = step (c k) (m k) (good c m k)

  -- N has an entry in column k
  abbrev pub Has : ℕ → Type 0
  Has k = (y : ℕ) × ((v k y ≡ N) ⊎ (h k y ≡ N))

  -- an edge's end shows one
  ends_has : {k x y : ℕ} → Ends v h N k x y → Has k
  ends_has (low {y} e) = (y, inl e)
  ends_has (high {y} e) = (y, inl e)
  ends_has (near {j} e) = (j, inr e)
  ends_has (far {j} e) = (j, inr e)

  -- What is to be shown of the w columns of a drawing. c counts, column by column, what makes N known: its pins in the columns before. N has an entry in a
  -- column only if it is known after it, and if it was known before, only where a strand comes in; none leaves the last column
  pub record Swept (c : ℕ → ℕ) (w : ℕ) : Type 0 where
    pub grows : (k : ℕ) → c k ≤ c (suc k)
    pub starts : (k : ℕ) → Has k → 0 < c (suc k)
    pub meets : (k : ℕ) → 0 < c k → Has k → (j : ℕ) × (comes_to h k j ≡ N)
    pub stops : (k : ℕ) → Has k → k < w
    pub closes : (j : ℕ) → comes_to h w j ≢ N
    pub local : (k : ℕ) → Local (comes_to h k) (v k) (h k) N

  -- what grows from each column to the next grows over several
  grown : (c : ℕ → ℕ) → ((k : ℕ) → c k ≤ c (suc k)) → (i k : ℕ) → i ≤ k → c i ≤ c k
  grown c g i zero p = let e : i ≡ 0 = omega arith in rw e (omega arith)
  grown c g i (suc k) p = go (λ q. grown c g i k q) (ℕ_discrete i (suc k))
    where
      go : (i ≤ k → c i ≤ c k) → Dec (i ≡ suc k) → c i ≤ c (suc k)
      go ih (yes e) = rw e (omega arith)
      go ih (no e) = omega (arith, ih (omega arith), g k)

  -- THE WHOLE: the edges of such a net are one piece
  pub one_piece : (c : ℕ → ℕ) (w : ℕ) → N ≢ 0 → Swept c w → OnePiece v h N
  one_piece c w n S =
      record { linked = λ e e'. ⊎_elim (λ l. l) (λ q. absurd (S.closes q.0.0 q.0.1)) ((good n S.local meet w).pair (inside e) (inside e')) }
    where
      inside : {k x y : ℕ} → Ends v h N k x y → Before w x y
      inside {k} e = (k, S.stops k (ends_has e), e)

      meet : (k : ℕ) → Met k
      meet k =
          record { met = λ b e. S.meets k (omega (arith, S.starts b.0 (ends_has b.2), grown c S.grows (suc b.0) k b.1)) (ends_has e) }
