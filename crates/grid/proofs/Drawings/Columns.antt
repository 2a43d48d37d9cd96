-- A drawing made column by column, each of which fits, is a solution. Assumes nothing.
use Prim.Native.Nat.{ℕ, zero, suc, ◌+◌, ◌*◌, ◌-◌, ◌≤◌, ◌<◌, ◌/◌, ◌%◌}
use mathlib.Core.Path.{◌≡◌, refl, sym, ◌∙◌, ap, fun_ext, subst, subst₃}
use mathlib.Core.Logic.{◌≢◌, ◌⊎◌, inl, inr, ⊎_elim}
use mathlib.Core.List.{List, [], ◌++◌}
use lib.ListN.{length, get_or, take, drop, replicate, length-append, length-drop, drop_of_length-le}
use lib.Seq.{drop_at, drop-append-le, take-append-le, take_all, take-nil, get_or-take, get_or-drop}
use native.Mathlib.Omega.{arith}
use native.Mathlib.Nat.{mul-le-mul_right, div-add-mod', mod-lt}
use native.Mathlib.Decide.{dec_lt, ℕ_discrete}
use Rattle.grid.specs.Channel.{left, pins}
use Rattle.grid.specs.Grid.{Wiring, Solution, NoLooseEnd, vertical_of, horizontal_of, column_of, comes_to, edges_among, edges_at}
use Rattle.grid.proofs.Counting.{zeros}
use Rattle.grid.proofs.Rows.{HasPin, left_suc, left-right, pin_left}
use Rattle.grid.proofs.Drawings.Step.{Local, Row, comes, foot, head, goes, Has, Swept, one_piece}
use Rattle.grid.proofs.Drawings.Flat.{vert_col, horz_col, vert_past, horz_past}

-- net N has a pin in the column, P above or Q below, or a strand that comes in
abbrev pub Source : (P Q : ℕ) (L : ℕ → ℕ) (N : ℕ) → Type 0
Source P Q L N = ((P ≡ N) ⊎ (Q ≡ N)) ⊎ ((j : ℕ) × (L j ≡ N))

-- ONE COLUMN FITS: its pins are P above and Q below; L comes in, U are its vertical entries, R leaves. Each net's edges meet the local condition, a net
-- with an entry has a source, and no net has a single edge at a point of a track
pub record Column (t P Q : ℕ) (L U R : ℕ → ℕ) : Type 0 where
  pub bottom_pin : U 0 ≡ Q
  pub top_pin : U t ≡ P
  pub local : (N : ℕ) → N ≢ 0 → Local L U R N
  pub source : (N : ℕ) → N ≢ 0 → (y : ℕ) → (U y ≡ N) ⊎ (R y ≡ N) → Source P Q L N
  pub tidy : (N : ℕ) → N ≢ 0 → (j : ℕ) → j < t → edges_among (U j) (U (suc j)) (L j) (R j) N ≢ 1

-- A COLUMN BEHIND k OTHERS

-- the others are as they were, whatever stands behind them
pub column_front : (t k : ℕ) (D E : List ℕ) → length D ≡ k * (2 * t + 1) → (x : ℕ) → x < k → column_of (D ++ E) t x ≡ column_of D t x
column_front t k D E size x p =
    let g : suc x * (2 * t + 1) ≤ k * (2 * t + 1) = mul-le-mul_right (2 * t + 1) p in
    let a : x * (2 * t + 1) ≤ length D = omega arith in
    let b : 2 * t + 1 ≤ length (drop (x * (2 * t + 1)) D) = rw length-drop (omega arith) in
    rw (drop-append-le, take-append-le)

module _ (t k : ℕ) (D U R : List ℕ) (size : length D ≡ k * (2 * t + 1)) (high : length U ≡ t + 1) (along : length R ≡ t) where
  -- and so are their entries
  v_old : (x : ℕ) → x < k → vertical_of (D ++ (U ++ R)) t x ≡ vertical_of D t x
  unfolding vertical_of
  v_old x p = fun_ext (λ y. ap (λ (c : List ℕ). get_or (take (t + 1) c) y 0) (column_front t k D (U ++ R) size x p))

  h_old : (x : ℕ) → x < k → horizontal_of (D ++ (U ++ R)) t x ≡ horizontal_of D t x
  unfolding horizontal_of
  h_old x p = fun_ext (λ y. ap (λ (c : List ℕ). get_or (drop (t + 1) c) y 0) (column_front t k D (U ++ R) size x p))

  comes_old : (x : ℕ) → x ≤ k → comes_to (horizontal_of (D ++ (U ++ R)) t) x ≡ comes_to (horizontal_of D t) x
  comes_old zero p = refl
  comes_old (suc x) p = h_old x p

  -- the new one has the entries that were put there
  pub column_new : column_of (D ++ (U ++ R)) t k ≡ U ++ R
  column_new = rw (drop_at D (U ++ R) (k * (2 * t + 1)) size) (take_all (2 * t + 1) (U ++ R) (rw length-append (omega arith)))

  v_new : vertical_of (D ++ (U ++ R)) t k ≡ (λ y. get_or U y 0)
  v_new = fun_ext (λ y. vert_col (D ++ (U ++ R)) U R t k y column_new high)

  h_new : horizontal_of (D ++ (U ++ R)) t k ≡ (λ j. get_or R j 0)
  h_new = fun_ext (λ j. horz_col (D ++ (U ++ R)) U R t k j column_new high)

  -- what holds of the new column and held of the others holds of all
  each : (P : ℕ → (ℕ → ℕ) → (ℕ → ℕ) → (ℕ → ℕ) → Type 0)
      → ((x : ℕ) → x < k → P x (comes_to (horizontal_of D t) x) (vertical_of D t x) (horizontal_of D t x))
      → P k (comes_to (horizontal_of D t) k) (λ y. get_or U y 0) (λ j. get_or R j 0)
      → (x : ℕ) → x < suc k → P x (comes_to (horizontal_of (D ++ (U ++ R)) t) x) (vertical_of (D ++ (U ++ R)) t x) (horizontal_of (D ++ (U ++ R)) t x)
  each P old new x p = go (ℕ_discrete x k)
    where
      go : Dec (x ≡ k) → P x (comes_to (horizontal_of (D ++ (U ++ R)) t) x) (vertical_of (D ++ (U ++ R)) t x) (horizontal_of (D ++ (U ++ R)) t x)
      go (yes e) = rw e (subst₃ (P k) (sym (comes_old k (omega arith))) (sym v_new) (sym h_new) new)
      go (no e) = let q : x < k = omega arith in subst₃ (P x) (sym (comes_old x (omega arith))) (sym (v_old x q)) (sym (h_old x q)) (old x q)

-- THE COLUMNS OF A DRAWING, ONE BY ONE

module _ (top bottom : List ℕ) (t : ℕ) where
  -- where net N has a pin in column x, and one before, a strand comes in
  abbrev pub Lives : ℕ → (ℕ → ℕ) → Type 0
  Lives x L = (N : ℕ) → N ≢ 0 → 0 < left top bottom x N → HasPin top bottom N x → (j : ℕ) × (L j ≡ N)

  -- D is k columns that fit; l is the gap after them
  pub record Drawn (k : ℕ) (D l : List ℕ) : Type 0 where
    pub size : length D ≡ k * (2 * t + 1)
    pub gap : (j : ℕ) → comes_to (horizontal_of D t) k j ≡ get_or l j 0
    pub column : (x : ℕ) → x < k → Column t (get_or top x 0) (get_or bottom x 0) (comes_to (horizontal_of D t) x) (vertical_of D t x) (horizontal_of D t x)
    pub lives : (x : ℕ) → x < k → Lives x (comes_to (horizontal_of D t) x)

  -- no column yet
  pub none : Drawn 0 [] (replicate t 0)
  none = record { size = omega arith; gap = λ j. sym (zeros t j); column = λ x p. absurd (omega arith); lives = λ x p. absurd (omega arith) }

  -- one more column
  pub more : {k : ℕ} {D l : List ℕ} (U R : List ℕ) → Drawn k D l → length U ≡ t + 1 → length R ≡ t
      → Column t (get_or top k 0) (get_or bottom k 0) (λ j. get_or l j 0) (λ y. get_or U y 0) (λ j. get_or R j 0)
      → Lives k (λ j. get_or l j 0)
      → Drawn (suc k) (D ++ (U ++ R)) R
  more {k} {D} {l} U R d high along col live =
      record {
        size = rw (length-append, length-append) (omega (arith, d.size));
        gap = λ j. ap (λ (f : ℕ → ℕ). f j) (h_new t k D U R d.size high along);
        column =
            each t k D U R d.size high along (λ x L u r. Column t (get_or top x 0) (get_or bottom x 0) L u r) d.column
            (subst (λ (L : ℕ → ℕ). Column t (get_or top k 0) (get_or bottom k 0) L (λ y. get_or U y 0) (λ j. get_or R j 0)) (sym (fun_ext d.gap)) col);
        lives = each t k D U R d.size high along (λ x L u r. Lives x L) d.lives (subst (λ (L : ℕ → ℕ). Lives k L) (sym (fun_ext d.gap)) live);
      }

  -- THE WHOLE: all w columns are drawn, and the gap after them is empty
  module _ (w : ℕ) (D l : List ℕ) (d : Drawn w D l) (over : (j : ℕ) → get_or l j 0 ≡ 0) where
    -- its entries
    abbrev v : ℕ → ℕ → ℕ
    v = vertical_of D t

    abbrev h : ℕ → ℕ → ℕ
    h = horizontal_of D t

    -- there is nothing after them
    past : (x : ℕ) → w ≤ x → column_of D t x ≡ []
    past x p =
        let g : w * (2 * t + 1) ≤ x * (2 * t + 1) = mul-le-mul_right (2 * t + 1) p in
        ap (take (2 * t + 1)) (drop_of_length-le D {i = x * (2 * t + 1)} (omega (arith, d.size))) ∙ take-nil (2 * t + 1)

    -- and so no entry
    v_past : (x y : ℕ) → w ≤ x → v x y ≡ 0
    v_past x y p = vert_past D t x y (past x p)

    h_past : (x y : ℕ) → w ≤ x → h x y ≡ 0
    h_past x y p = horz_past D t x y (past x p)

    -- nothing comes into a column after the last
    dry : (k j : ℕ) → w ≤ k → comes_to h k j ≡ 0
    dry k j p = go (ℕ_discrete w k)
      where
        at : (k : ℕ) → w < k → comes_to h k j ≡ 0
        at zero q = absurd (omega arith)
        at (suc k) q = h_past k j (omega arith)

        go : Dec (w ≡ k) → comes_to h k j ≡ 0
        go (yes e) = subst (λ (k : ℕ). comes_to h k j ≡ 0) e (d.gap j ∙ over j)
        go (no e) = at k (omega arith)

    module _ (N : ℕ) (n : N ≢ 0) where
      -- what makes N known: its pins in the columns before
      abbrev c : ℕ → ℕ
      c k = left top bottom k N

      -- they grow
      grows : (k : ℕ) → c k ≤ c (suc k)
      grows k = omega (arith, left_suc top bottom N k n)

      -- a column with an entry of N is one of the w
      stops : (k : ℕ) → Has v h N k → k < w
      stops k (y, o) = go (dec_lt k w)
        where
          go : Dec (k < w) → k < w
          go (yes p) = p
          go (no p) = absurd (n (⊎_elim (λ e. sym e ∙ v_past k y (omega arith)) (λ e. sym e ∙ h_past k y (omega arith)) o))

      -- so N has a source there
      source : (k : ℕ) → Has v h N k → Source (get_or top k 0) (get_or bottom k 0) (comes_to h k) N
      source k o = (d.column k (stops k o)).source N n o.0 o.1

      -- and is known after it, if strands are known
      known : (k : ℕ) → ((j : ℕ) → comes_to h k j ≡ N → 0 < c k) → Has v h N k → 0 < c (suc k)
      known k before o = ⊎_elim (pin_left top bottom N k n) (λ s. omega (arith, before s.0 s.1, grows k)) (source k o)

      -- they are
      in_gap : (k j : ℕ) → comes_to h k j ≡ N → 0 < c k
      in_gap zero j e = absurd (n (sym e))
      in_gap (suc k) j e = known k (in_gap k) (j, inr e)

      -- where N was known before, a strand comes in
      meets : (k : ℕ) → 0 < c k → Has v h N k → (j : ℕ) × (comes_to h k j ≡ N)
      meets k p o = ⊎_elim (d.lives k (stops k o) N n p) (λ s. s) (source k o)

      -- N has no row in a column after the last
      empty : (k r : ℕ) → w ≤ k → Row (comes_to h k) (v k) (h k) N r → ⊥
      empty k r p (comes {j} e) = n (sym e ∙ dry k j p)
      empty k r p (foot {y} e) = n (sym e ∙ v_past k y p)
      empty k r p (head {y} e) = n (sym e ∙ v_past k y p)
      empty k r p (goes {j} e) = n (sym e ∙ h_past k j p)

      -- so every column meets the local condition
      local : (k : ℕ) → Local (comes_to h k) (v k) (h k) N
      local k = go (dec_lt k w)
        where
          go : Dec (k < w) → Local (comes_to h k) (v k) (h k) N
          go (yes p) = (d.column k p).local N n
          go (no p) = record { pair = λ {r} {s} a b. absurd (empty k r (omega arith) a) }

      -- what the column step asks for
      swept : Swept v h N c w
      swept =
          record {
            grows = grows;
            starts = λ k o. known k (in_gap k) o;
            meets = meets;
            stops = stops;
            closes = λ j e. n (sym e ∙ d.gap j ∙ over j);
            local = local;
          }

    -- each entry is one of a column's
    entry : (x r : ℕ) → r < 2 * t + 1 → Has v h (get_or D (x * (2 * t + 1) + r) 0) x
    unfolding vertical_of horizontal_of
    entry x r p = go (dec_lt r (t + 1))
      where
        col : get_or (column_of D t x) r 0 ≡ get_or D (x * (2 * t + 1) + r) 0
        col = get_or-take (2 * t + 1) (drop (x * (2 * t + 1)) D) r 0 p ∙ get_or-drop (x * (2 * t + 1)) D r 0

        go : Dec (r < t + 1) → Has v h (get_or D (x * (2 * t + 1) + r) 0) x
        go (yes q) = (r, inl (get_or-take (t + 1) (column_of D t x) r 0 q ∙ col))
        go (no q) =
            let e : t + 1 + (r - (t + 1)) ≡ r = omega arith in
            (r - (t + 1), inr (get_or-drop (t + 1) (column_of D t x) (r - (t + 1)) 0 ∙ ap (λ (z : ℕ). get_or (column_of D t x) z 0) e ∙ col))

    -- and so 0 or a net
    net : (i : ℕ) → (get_or D i 0 ≡ 0) ⊎ (0 < pins top bottom (get_or D i 0))
    net i = go (ℕ_discrete (get_or D i 0) 0)
      where
        at : Has v h (get_or D i 0) (i / (2 * t + 1))
        at = rw (div-add-mod' i (2 * t + 1)) at (entry (i / (2 * t + 1)) (i % (2 * t + 1)) (mod-lt i (omega arith)))

        go : Dec (get_or D i 0 ≡ 0) → (get_or D i 0 ≡ 0) ⊎ (0 < pins top bottom (get_or D i 0))
        go (yes e) = inl e
        go (no n) =
            let k = i / (2 * t + 1) in
            inr (omega (arith, (swept (get_or D i 0) n).starts k at, left-right top bottom (get_or D i 0) (suc k)))

    -- the drawing is one of document 01's
    wiring : length top ≤ w → Wiring top bottom w t D
    wiring covers =
        record {
          size = d.size;
          covers = covers;
          nets = λ i p. net i;
          bottom_pins = λ x p. (d.column x p).bottom_pin;
          top_pins = λ x p. (d.column x p).top_pin;
          last = λ x j e. subst (λ (k : ℕ). comes_to h k j ≡ 0) (sym e) (dry w j (omega arith));
          pieces = λ N n. one_piece v h N (c N n) w n (swept N n);
        }

    -- no end is loose
    ends : (N : ℕ) → N ≢ 0 → NoLooseEnd v h w t N
    unfolding edges_at
    ends N n x j p q = (d.column x p).tidy N n j q

    -- THE DRAWING IS A SOLUTION
    pub solution : length top ≤ w → Solution top bottom w t D
    solution covers = record { wiring = wiring covers; ends = ends }
