-- A column's entries, as the writer fills them in.
use Prim.Native.Nat.{ℕ, ◌+◌, ◌≤◌, ◌<◌, max}
use mathlib.Core.Path.{◌≡◌, refl, sym, ap, ◌∙◌}
use mathlib.Core.List.{List, ◌++◌}
use mathlib.Core.Logic.{◌⊎◌, inl, inr, ⊎_elim}
use mathlib.Core.Bool.{Bool, true, false, ◌||◌}
use lib.Dec.{eqb, ltb, leb}
use borrow.Author.Tests.{lt-ltb, le-ltb, leb-true}
use Rattle.grid.specs.Channel.{pick}
use Rattle.router.specs.Working.{is_flat, runs, two_runs}
use Rattle.grid.proofs.Tests.{Same, same, diff, same_by, below_or, and_true}
use Rattle.sweep.proofs.Columns.Entries.{get_or-listed, length-listed, verticals-length}
use native.Mathlib.Nat.{zero-add}
use native.Mathlib.Numerals.{add-one}
use native.Mathlib.Omega.{arith}
use lib.ListN.{length, take, drop, get_or, set, length-drop}
use lib.Seq.{paste, paste-zero, paste-suc, get_or-drop, take_all, take_at}
use Rattle.grid.specs.declared.Segments.{Segments}
use Rattle.grid.specs.Segments.{segment}
use Rattle.sweep.specs.declared.Action.{Action}
use Rattle.sweep.specs.Tracks.{verticals, values_from}

-- there is no net v, or it reaches up to row a
reaches : (v a b : ℕ) → (eqb v 0 || leb a b) ≡ true → (v ≡ 0) ⊎ (a ≤ b)
reaches v a b h = go (eqb v 0) (same_by v 0) h
  where
    go : (q : Bool) → Same v 0 q → (q || leb a b) ≡ true → (v ≡ 0) ⊎ (a ≤ b)
    go true (same e) g = inl e
    go false (diff n) g = inr (leb-true a b g)

-- three runs, where the wires are flat
pub flat-runs : (w : Segments) (a b k : ℕ) → is_flat w ≡ true → a ≡ max w.low w.start → b ≡ max w.stop w.high
    → runs w.bottom a w.middle b w.top k ≡ segment w k
unfolding segment
flat-runs w a b k f ea eb = ⊎_elim in_low past_low (below_or k w.low)
  where
    both : ((eqb w.bottom 0 || leb w.start w.low) ≡ true) × ((eqb w.middle 0 || leb w.high w.stop) ≡ true)
    both = and_true (eqb w.bottom 0 || leb w.start w.low) (eqb w.middle 0 || leb w.high w.stop) f

    lower : (w.bottom ≡ 0) ⊎ (w.start ≤ w.low)
    lower = reaches w.bottom w.start w.low both.0

    upper : (w.middle ≡ 0) ⊎ (w.high ≤ w.stop)
    upper = reaches w.middle w.high w.stop both.1

    -- from row a up
    above : w.low ≤ k → w.start ≤ k → pick (ltb k b) w.middle w.top ≡ pick (ltb k w.stop) w.middle (pick (ltb k w.high) 0 w.top)
    above h g =
        ⊎_elim (λ (l : k < w.stop). rw (lt-ltb k w.stop l, lt-ltb k b (omega arith)) refl)
        (λ (l : w.stop ≤ k).
        ⊎_elim (λ (m : k < w.high).
        ⊎_elim (λ (z : w.middle ≡ 0). rw (le-ltb k w.stop l, lt-ltb k w.high m, lt-ltb k b (omega arith)) z) (λ (z : w.high ≤ w.stop). absurd (omega arith)) upper)
        (λ (m : w.high ≤ k). rw (le-ltb k w.stop l, le-ltb k w.high m, le-ltb k b (omega arith)) refl) (below_or k w.high)) (below_or k w.stop)

    in_low : k < w.low → runs w.bottom a w.middle b w.top k ≡ pick (ltb k w.low) w.bottom (pick (ltb k w.start) 0 (pick (ltb k w.stop) w.middle (pick (ltb k w.high) 0 w.top)))
    in_low h = rw (lt-ltb k w.low h, lt-ltb k a (omega arith)) refl

    past_low : w.low ≤ k → runs w.bottom a w.middle b w.top k ≡ pick (ltb k w.low) w.bottom (pick (ltb k w.start) 0 (pick (ltb k w.stop) w.middle (pick (ltb k w.high) 0 w.top)))
    past_low h =
        ⊎_elim (λ (g : k < w.start).
        ⊎_elim (λ (z : w.bottom ≡ 0). rw (le-ltb k w.low h, lt-ltb k w.start g, lt-ltb k a (omega arith)) z) (λ (z : w.start ≤ w.low). absurd (omega arith)) lower)
        (λ (g : w.start ≤ k). rw (le-ltb k w.low h, le-ltb k w.start g, le-ltb k a (omega arith)) (above h g)) (below_or k w.start)

-- the middle run is empty
pub two_runs_lem : (q a m b p k : ℕ) → a ≡ b → runs q a m b p k ≡ two_runs q a p k
two_runs_lem q a m b p k e = ⊎_elim (λ (h : k < a). rw (lt-ltb k a h) refl) (λ (h : a ≤ k). rw (le-ltb k a h, le-ltb k b (omega arith)) refl) (below_or k a)

-- s holds f k at each index k below i, and what d holds from there on; the entries to write are n
abbrev pub Written : (f : ℕ → ℕ) (d : List ℕ) (n i : ℕ) (s : List ℕ) → Type 0
Written f d n i s = s ≡ paste d 0 (values_from n 0 f) i

-- no entry
pub written_none : (f : ℕ → ℕ) (d : List ℕ) (n : ℕ) → Written f d n 0 d
written_none f d n = paste-zero d 0 (values_from n 0 f)

-- one entry more
pub written_next : (f : ℕ → ℕ) (d : List ℕ) (n i : ℕ) (s : List ℕ) (v : ℕ) → Written f d n i s → v ≡ f i → i < n → i < length d → Written f d n (i + 1) (set s i v)
written_next f d n i s v w e h l =
    let g : v ≡ get_or (values_from n 0 f) i 0 = e ∙ sym (get_or-listed n 0 i f h ∙ ap f (zero-add i)) in
    let p = paste-suc d 0 (values_from n 0 f) i 0 (omega arith) (omega (arith, length-listed n 0 f)) in
    cc (w, g, p, zero-add i, add-one i)

-- all entries
pub written_all : (f : ℕ → ℕ) (d : List ℕ) (n i : ℕ) (s : List ℕ) → Written f d n i s → i ≡ n → s ≡ values_from n 0 f ++ drop n d
written_all f d n i s w e =
    cc (w, e, take_all n (values_from n 0 f) (omega (arith, length-listed n 0 f)), zero-add n)

-- they are the verticals, where f k is the edge above row k
pub verticals_by : (f : ℕ → ℕ) (d s : List ℕ) (t : ℕ) (x : Action) → ((k : ℕ) → f k ≡ segment x.wires k) → s ≡ values_from (t + 1) 0 f ++ drop (t + 1) d → s ≡ verticals t x ++ drop (t + 1) d
unfolding verticals
verticals_by f d s t x h e =
    e ∙ ap (λ (l : List ℕ). l ++ drop (t + 1) d) (λ i. values_from (add-one t i) 0 (λ k. h k i))

-- the verticals and the tracks are the column
pub column_whole : (d e f tr : List ℕ) (t : ℕ) (x : Action) → e ≡ verticals t x ++ drop (t + 1) d → f ≡ take (t + 1) e ++ take t (drop 1 tr) → f ≡ verticals t x ++ take t (drop 1 tr)
column_whole d e f tr t x p q = cc (take_at (verticals t x) (drop (t + 1) d) (t + 1) (verticals-length t x))

-- one track more
pub copied : (d tr s : List ℕ) (t i : ℕ) → s ≡ paste d (t + 1) (drop 1 tr) i → t + 1 + i < length d → 1 + i < length tr
    → set s (t + 1 + i) (get_or tr (1 + i) 0) ≡ paste d (t + 1) (drop 1 tr) (i + 1)
copied d tr s t i e h l = cc (paste-suc d (t + 1) (drop 1 tr) i 0 h (omega (arith, length-drop 1 tr)), get_or-drop 1 tr i 0, add-one i)
