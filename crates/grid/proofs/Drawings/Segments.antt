-- Columns of five segments. A net that runs straight, is carried on or ends in one run meets the local condition. Assumes nothing.
use Prim.Native.Nat.{ℕ, suc, ◌+◌, ◌≤◌, ◌<◌, zero-le}
use mathlib.Core.Path.{◌≡◌, refl, sym, ◌∙◌}
use mathlib.Core.Logic.{◌⊎◌, inl, inr, ◌≢◌, ⊎_elim}
use mathlib.Core.Bool.{Bool, true, false}
use mathlib.Core.List.{List}
use native.Mathlib.Omega.{arith}
use native.Mathlib.Decide.{dec_lt, ℕ_discrete}
use lib.Dec.{ltb}
use lib.ListN.{length, get_or, get_or-eq_default}
use Rattle.grid.specs.Channel.{pick}
use Rattle.grid.specs.declared.Segments.{Segments}
use Rattle.grid.specs.Segments.{segment}
use Rattle.grid.proofs.Tests.{Below, below, above, below_by, lt-ltb, le-ltb}
use Rattle.grid.proofs.Drawings.Step.{Local, Leaves}
use Rattle.grid.proofs.Drawings.Local.{leaves_on, carry, one_run}

-- THE SEGMENTS

-- the segments follow one another in a column of t tracks
pub record Ordered (t : ℕ) (s : Segments) : Type 0 where
  pub order₁ : s.low ≤ s.start
  pub order₂ : s.start ≤ s.stop
  pub order₃ : s.stop ≤ s.high
  pub order₄ : s.high ≤ suc t

-- U are the vertical entries of such a column
pub record Draws (t : ℕ) (s : Segments) (U : ℕ → ℕ) : Type 0 where
  pub inside : (y : ℕ) → y ≤ t → U y ≡ segment s y
  pub outside : (y : ℕ) → t < y → U y ≡ 0

-- as a list
pub draws_list : (t : ℕ) (s : Segments) (l : List ℕ) → length l ≡ t + 1 → ((y : ℕ) → y ≤ t → get_or l y 0 ≡ segment s y) → Draws t s (λ y. get_or l y 0)
draws_list t s l e at = record { inside = at; outside = λ y p. get_or-eq_default l 0 (omega arith) }

-- THE RUNS OF A NET

-- N has the entries from row lo up to row hi
pub data Run (t : ℕ) (s : Segments) (N : ℕ) : ℕ → ℕ → Type 0 where
  bottom_run : s.bottom ≡ N → Run t s N 0 s.low
  middle_run : s.middle ≡ N → Run t s N s.start s.stop
  top_run : s.top ≡ N → Run t s N s.high (suc t)

-- C holds of each run of N: of those of the three segments that are N's
pub record EachRun (t : ℕ) (s : Segments) (N : ℕ) (C : ℕ → ℕ → Type 0) : Type 0 where
  pub on_bottom : s.bottom ≡ N → C 0 s.low
  pub on_middle : s.middle ≡ N → C s.start s.stop
  pub on_top : s.top ≡ N → C s.high (suc t)

-- and so of any
pub of_run : {t : ℕ} {s : Segments} {N lo hi : ℕ} {C : ℕ → ℕ → Type 0} → EachRun t s N C → Run t s N lo hi → C lo hi
of_run c (bottom_run e) = c.on_bottom e
of_run c (middle_run e) = c.on_middle e
of_run c (top_run e) = c.on_top e

-- entry y is in a run of N
abbrev pub InRun : (t : ℕ) (s : Segments) (N y : ℕ) → Type 0
InRun t s N y = (lo : ℕ) × (hi : ℕ) × Run t s N lo hi × (lo ≤ y) × (y < hi)

-- row r is at a run of N
abbrev pub AtRun : (t : ℕ) (s : Segments) (N r : ℕ) → Type 0
AtRun t s N r = (lo : ℕ) × (hi : ℕ) × Run t s N lo hi × (lo < hi) × (lo ≤ r) × (r ≤ hi)

-- each strand of N on the side A of the column runs straight on to the side B, or meets a run
abbrev pub GoOn : (t : ℕ) (s : Segments) (A B : ℕ → ℕ) (N : ℕ) → Type 0
GoOn t s A B N = (j : ℕ) → A j ≡ N → (B j ≡ N) ⊎ AtRun t s N (suc j)

-- an entry in a run of N is N
pub segment_run : {t : ℕ} {s : Segments} {N lo hi : ℕ} → Ordered t s → Run t s N lo hi → (y : ℕ) → lo ≤ y → y < hi → segment s y ≡ N
unfolding segment
segment_run {t} {s} o (bottom_run e) y p q = rw (lt-ltb y s.low q) e
segment_run {t} {s} o (middle_run e) y p q = rw (le-ltb y s.low (omega arith), le-ltb y s.start p, lt-ltb y s.stop q) e
segment_run {t} {s} o (top_run e) y p q =
    rw (le-ltb y s.low (omega arith), le-ltb y s.start (omega arith), le-ltb y s.stop (omega arith), le-ltb y s.high p) e

-- an entry between the runs is 0
pub segment_none : {t : ℕ} {s : Segments} → Ordered t s → (y : ℕ) → s.low ≤ y → y < s.high → (y < s.start) ⊎ (s.stop ≤ y) → segment s y ≡ 0
unfolding segment
segment_none {t} {s} o y p q (inl a) = rw (le-ltb y s.low p, lt-ltb y s.start a)
segment_none {t} {s} o y p q (inr a) = rw (le-ltb y s.low p, le-ltb y s.start (omega arith), le-ltb y s.stop a, lt-ltb y s.high q)

-- an entry that is N is in a run of N
segment_in : (t : ℕ) (s : Segments) (N y : ℕ) → N ≢ 0 → y ≤ t → segment s y ≡ N → InRun t s N y
unfolding segment
segment_in t s N y n h e =
    go (ltb y s.low) (below_by y s.low) (ltb y s.start) (below_by y s.start)
    (ltb y s.stop) (below_by y s.stop) (ltb y s.high) (below_by y s.high) e
  where
    go : (i : Bool) → Below y s.low i → (j : Bool) → Below y s.start j → (k : Bool) → Below y s.stop k → (l : Bool) → Below y s.high l
        → pick i s.bottom (pick j 0 (pick k s.middle (pick l 0 s.top))) ≡ N → InRun t s N y
    go true (below a) j b k c l d f = (0, s.low, bottom_run f, zero-le, a)
    go false a true b k c l d f = absurd (n (sym f))
    go false a false (above b) true (below c) l d f = (s.start, s.stop, middle_run f, b, c)
    go false a false b false c true d f = absurd (n (sym f))
    go false a false b false c false (above d) f = (s.high, suc t, top_run f, d, omega arith)

-- HOW A NET FARES IN A COLUMN: L comes in, R leaves

-- it is carried on: each of its runs has an exit, and each of its strands goes on
pub record Carried (t : ℕ) (s : Segments) (L R : ℕ → ℕ) (N : ℕ) : Type 0 where
  pub exits : EachRun t s N (λ lo hi. lo < hi → (j : ℕ) × (R j ≡ N) × (lo ≤ suc j) × (suc j ≤ hi))
  pub ins : GoOn t s L R N

-- it ends in one run, from row lo to row hi, of one segment or of several that touch: its segments are the entries between, its strands lie between
pub record Ended (t : ℕ) (s : Segments) (L R : ℕ → ℕ) (N lo hi : ℕ) : Type 0 where
  pub some : lo < hi
  pub covers : (y : ℕ) → lo ≤ y → y < hi → InRun t s N y
  pub runs : EachRun t s N (λ a b. a < b → (lo ≤ a) × (b ≤ hi))
  pub ins : (j : ℕ) → L j ≡ N → (lo ≤ suc j) × (suc j ≤ hi)
  pub outs : (j : ℕ) → R j ≡ N → (lo ≤ suc j) × (suc j ≤ hi)

-- it runs straight, or is carried on, or ends
pub data Fares (t : ℕ) (s : Segments) (L R : ℕ → ℕ) (N : ℕ) : Type 0 where
  straight : EachRun t s N (λ lo hi. hi ≤ lo) → ((j : ℕ) → L j ≡ N → R j ≡ N) → Fares t s L R N
  carried : Carried t s L R N → Fares t s L R N
  ended : {lo hi : ℕ} → Ended t s L R N lo hi → Fares t s L R N

-- so its strands that come in go on
pub strand_in : {t : ℕ} {s : Segments} {L R : ℕ → ℕ} {N : ℕ} → Fares t s L R N → GoOn t s L R N
strand_in (straight none on) j e = inl (on j e)
strand_in (carried c) j e = c.ins j e
strand_in {t} {s} {N} (ended {lo} {hi} c) j e = inr (go (dec_lt (suc j) hi))
  where
    go : Dec (suc j < hi) → AtRun t s N (suc j)
    go (yes p) = let (a, b, run, l, h) = c.covers (suc j) (c.ins j e).0 p in (a, b, run, omega arith, l, omega arith)
    go (no p) = let (a, b, run, l, h) = c.covers j (omega (arith, c.some, c.ins j e)) (omega (arith, c.ins j e)) in (a, b, run, omega arith, omega arith, h)

-- THE LOCAL CONDITION HOLDS FOR A NET THAT FARES SO

module _ {t : ℕ} {s : Segments} {U : ℕ → ℕ} (o : Ordered t s) (u : Draws t s U) where
  -- the entries of a run
  pub run_all : {N lo hi : ℕ} → Run t s N lo hi → (y : ℕ) → lo ≤ y → y < hi → U y ≡ N
  run_all r y p q = u.inside y (omega (arith, run_high r)) ∙ segment_run o r y p q
    where
      run_high : {N lo hi : ℕ} → Run t s N lo hi → hi ≤ suc t
      run_high (bottom_run e) = omega arith
      run_high (middle_run e) = omega arith
      run_high (top_run e) = omega arith

  -- an entry lies in a run
  pub in_run : (N y : ℕ) → N ≢ 0 → U y ≡ N → InRun t s N y
  in_run N y n e = go (dec_lt t y)
    where
      go : Dec (t < y) → InRun t s N y
      go (yes p) = absurd (n (sym e ∙ u.outside y p))
      go (no p) = segment_in t s N y n (omega arith) (sym (u.inside y (omega arith)) ∙ e)

  -- all of a net that is carried on leaves
  carried_local : {L R : ℕ → ℕ} {N : ℕ} → N ≢ 0 → Carried t s L R N → Local L U R N
  carried_local {L} {R} {N} n c = carry ins ups
    where
      leaves : {lo hi : ℕ} (r : ℕ) → Run t s N lo hi → lo < hi → lo ≤ r → r ≤ hi → Leaves U R N r
      leaves r run p a b = let (j, f, l, h) = of_run c.exits run p in (j, f, λ z d e. run_all run z (omega arith) (omega arith))

      ins : (j : ℕ) → L j ≡ N → Leaves U R N (suc j)
      ins j e = ⊎_elim (leaves_on j) (λ a. leaves (suc j) a.2 a.3 a.4 a.5) (c.ins j e)

      ups : (y : ℕ) → U y ≡ N → Leaves U R N y
      ups y e = let (lo, hi, run, a, b) = in_run N y n e in leaves y run (omega arith) a (omega arith)

  -- all of a net that ends lies in its run
  ended_local : {L R : ℕ → ℕ} {N lo hi : ℕ} → N ≢ 0 → Ended t s L R N lo hi → Local L U R N
  ended_local {L} {R} {N} {lo} {hi} n c =
      one_run lo hi
      (λ y p q. let (a, b, run, l, h) = c.covers y p q in run_all run y l h)
      c.ins
      (λ y e. let (a, b, run, l, h) = in_run N y n e in omega (arith, of_run c.runs run (omega arith)))
      c.outs

  -- each of the three ways
  pub fares_local : {L R : ℕ → ℕ} {N : ℕ} → N ≢ 0 → Fares t s L R N → Local L U R N
  fares_local {L} {R} {N} n (straight none on) =
      carry (λ j e. leaves_on j (on j e)) (λ y e. let (lo, hi, run, a, b) = in_run N y n e in absurd (omega (arith, of_run none run)))
  fares_local n (carried c) = carried_local n c
  fares_local n (ended c) = ended_local n c

-- TWO WAYS TO END

-- in one of its segments, where the others lie within it or are empty
pub alone : {t : ℕ} {s : Segments} {L R : ℕ → ℕ} {N lo hi : ℕ} → Run t s N lo hi → lo < hi
    → EachRun t s N (λ a b. a < b → (lo ≤ a) × (b ≤ hi))
    → ((j : ℕ) → L j ≡ N → (lo ≤ suc j) × (suc j ≤ hi))
    → ((j : ℕ) → R j ≡ N → (lo ≤ suc j) × (suc j ≤ hi))
    → Fares t s L R N
alone {t} {s} {L} {R} {N} {lo} {hi} r some others ins outs =
    ended record { some = some; covers = λ y p q. (lo, hi, r, p, q); runs = others; ins = ins; outs = outs }

-- in the middle segment and its pins', where the segments touch
module _ {t : ℕ} {s : Segments} {L R : ℕ → ℕ} {N : ℕ} (o : Ordered t s) (m : s.middle ≡ N) (some : s.start < s.stop)
    (foot : s.low ≡ s.start) (head : s.stop ≡ s.high)
    (ins : (j : ℕ) → L j ≡ N → (s.start ≤ suc j) × (suc j ≤ s.stop)) (outs : (j : ℕ) → R j ≡ N → (s.start ≤ suc j) × (suc j ≤ s.stop)) where
  -- the run goes to the column's end where the pin there is N's
  touching : (lo hi : ℕ) → ((lo ≡ 0) × (s.bottom ≡ N)) ⊎ ((lo ≡ s.start) × (s.bottom ≢ N))
      → ((hi ≡ suc t) × (s.top ≡ N)) ⊎ ((hi ≡ s.stop) × (s.top ≢ N))
      → Ended t s L R N lo hi
  touching lo hi l h =
      record {
        some = omega (arith, spread);
        covers = λ y p q. at y p q (dec_lt y s.low) (dec_lt y s.high);
        runs = record {
          on_bottom = λ e p. (⊎_elim (λ d. omega arith) (λ d. absurd (d.1 e)) l, omega (arith, spread));
          on_middle = λ e p. spread;
          on_top = λ e p. (omega (arith, spread), ⊎_elim (λ d. omega arith) (λ d. absurd (d.1 e)) h);
        };
        ins = λ j e. omega (arith, ins j e, spread);
        outs = λ j e. omega (arith, outs j e, spread);
      }
    where
      spread : (lo ≤ s.start) × (s.stop ≤ hi)
      spread = (⊎_elim (λ d. omega arith) (λ d. omega arith) l, ⊎_elim (λ d. omega arith) (λ d. omega arith) h)

      at : (y : ℕ) → lo ≤ y → y < hi → Dec (y < s.low) → Dec (y < s.high) → InRun t s N y
      at y p q (yes a) b = ⊎_elim (λ d. (0, s.low, bottom_run d.1, zero-le, a)) (λ d. absurd (omega arith)) l
      at y p q (no a) (yes b) = (s.start, s.stop, middle_run m, omega arith, omega arith)
      at y p q (no a) (no b) = ⊎_elim (λ d. (s.high, suc t, top_run d.1, omega arith, omega arith)) (λ d. absurd (omega arith)) h

  -- whether or not the pins are N's
  pub joined : Fares t s L R N
  joined =
      let (lo, l) = end s.bottom 0 s.start in
      let (hi, h) = end s.top (suc t) s.stop in
      ended (touching lo hi l h)
    where
      end : (net far near : ℕ) → (x : ℕ) × (((x ≡ far) × (net ≡ N)) ⊎ ((x ≡ near) × (net ≢ N)))
      end net far near = go (ℕ_discrete net N)
        where
          go : Dec (net ≡ N) → (x : ℕ) × (((x ≡ far) × (net ≡ N)) ⊎ ((x ≡ near) × (net ≢ N)))
          go (yes e) = (far, inl (refl, e))
          go (no e) = (near, inr (refl, e))
