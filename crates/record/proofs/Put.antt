-- The laws of putting bytes over others. Assumes nothing.
use Prim.Native.Nat.{ℕ, zero, suc, ◌+◌, ◌≤◌, ◌<◌}
use native.Mathlib.Omega.{arith}
use native.Mathlib.Numerals.{add-one}
use native.Mathlib.Nat.{add-zero, zero-add, add_assoc}
use mathlib.Core.Bool.{Bool, true, false}
use mathlib.Core.Path.{◌≡◌, refl, ap, sym, subst, ◌∙◌}
use mathlib.Core.List.{List, [], ◌∷◌, ◌++◌, append_assoc}
use lib.ListN.{length, take, drop, set, length-append, take-append-drop}
use lib.Seq.{set_split, take_at, drop_at, drop-drop, length-take-le}
use lib.Dec.{ltb}
use borrow.Author.Tests.{ltb-true, ltb-false}
use Rattle.record.specs.Record.{laid}
use Rattle.record.specs.Counts.{Counts}
use Rattle.record.specs.declared.writing.Writer.{Writer}
use Rattle.record.specs.Writing.{Room, overwritten, Puts}

-- nothing put over others
over_none : (old : List ℕ) (at : ℕ) → overwritten old at [] ≡ old
unfolding overwritten
over_none old at = ap (λ z. take at old ++ drop z old) (add-zero at) ∙ take-append-drop at old

-- one byte put over others
pub over_one : (old : List ℕ) (at x : ℕ) → at < length old → set old at x ≡ overwritten old at (x ∷ [])
unfolding overwritten
over_one old at x h = set_split old at x h ∙ sym (ap (λ z. take at old ++ (x ∷ drop z old)) (add-one at))

-- one list put over others, then another behind it
over-over : (old : List ℕ) (at : ℕ) (a b : List ℕ) → at + length a ≤ length old → overwritten (overwritten old at a) (at + length a) b ≡ overwritten old at (a ++ b)
unfolding overwritten
over-over old at a b h =
    ap (λ z. z ++ (b ++ drop (at + length a + length b) (take at old ++ (a ++ drop (at + length a) old)))) front
    ∙ ap (λ z. (take at old ++ a) ++ (b ++ z)) back
    ∙ append_assoc (take at old) a (b ++ drop (at + length (a ++ b)) old)
    ∙ sym (ap (λ z. take at old ++ z) (append_assoc a b (drop (at + length (a ++ b)) old)))
  where
    long : length (take at old ++ a) ≡ at + length a
    long = length-append (take at old) a ∙ omega (arith, length-take-le at old (omega arith))

    front : take (at + length a) (take at old ++ (a ++ drop (at + length a) old)) ≡ take at old ++ a
    front =
        ap (λ z. take (at + length a) z) (sym (append_assoc (take at old) a (drop (at + length a) old)))
        ∙ take_at (take at old ++ a) (drop (at + length a) old) (at + length a) long

    back : drop (at + length a + length b) (take at old ++ (a ++ drop (at + length a) old)) ≡ drop (at + length (a ++ b)) old
    back =
        sym (drop-drop (length b) (at + length a) (take at old ++ (a ++ drop (at + length a) old)))
        ∙ ap (λ z. drop (length b) (drop (at + length a) z)) (sym (append_assoc (take at old) a (drop (at + length a) old)))
        ∙ ap (λ z. drop (length b) z) (drop_at (take at old ++ a) (drop (at + length a) old) (at + length a) long)
        ∙ drop-drop (length b) (at + length a) old
        ∙ ap (λ z. drop z old) (add_assoc at (length a) (length b) ∙ ap (λ z. at + z) (sym (length-append a b)))

-- nothing put
pub put_none : (w : Writer) → w.written ≤ length w.bytes.now → Puts w [] w
put_none w h = record { holds = sym (over_none w.bytes.now w.written); ends = sym (add-zero w.written); fits = h; keeps = refl; same = refl }

-- b put after a
pub put_then : {u v w : Writer} {a b : List ℕ} → Puts u a v → Puts v b w → Puts u (a ++ b) w
put_then {u} {v} {w} {a} {b} p q =
    record {
      holds =
          q.holds ∙ ap (λ z. overwritten z v.written b) p.holds ∙ ap (λ z. overwritten (overwritten u.bytes.now u.written a) z b) p.ends
          ∙ over-over u.bytes.now u.written a b (omega (arith, p.ends, p.fits));
      ends = q.ends ∙ omega (arith, p.ends, length-append a b);
      fits = omega (arith, q.fits, p.keeps);
      keeps = q.keeps ∙ p.keeps;
      same = q.same ∙ p.same;
    }

-- the same put, with what was put written otherwise
pub put_as : {u v : Writer} {a : List ℕ} → Puts u a v → (b : List ℕ) → a ≡ b → Puts u b v
put_as {u} {v} p b h = subst (λ z. Puts u z v) h p

-- put from the start on: the bytes put, then the old ones; and how many they are
pub put_laid : {u v : Writer} {new : List ℕ} → u.written ≡ 0 → Puts u new v → (v.written ≡ length new) × (v.bytes.now ≡ laid new u.bytes.now)
unfolding overwritten
put_laid {u} {v} {new} e p =
    (omega (arith, p.ends), p.holds ∙ ap (λ i. take i u.bytes.now ++ (new ++ drop (i + length new) u.bytes.now)) e ∙ ap (λ i. new ++ drop i u.bytes.now) (zero-add (length new)))

-- as many bytes as were laid over the first ones can be taken as a part
pub counts_laid : (e : ℕ) (new old now : List ℕ) → length new ≤ length old → e ≡ length new → now ≡ laid new old → Counts e now
counts_laid e new old now h f g = (fits, sym (length-take-le e now fits))
  where
    fits : e ≤ length now
    fits = omega (arith, f, ap length g, length-append new (drop (length new) old))

-- room in a writer that has written nothing
pub room_new : {w : Writer} {new old : List ℕ} → w.written ≡ 0 → w.bytes.now ≡ old → length new ≤ length old → Room w new
room_new e f h = record { room = omega (arith, e, ap length f) }

-- room for the same, written otherwise
pub room_as : {w : Writer} {a b : List ℕ} → Room w a → a ≡ b → Room w b
room_as {w} r e = subst (λ z. Room w z) e r

-- room for two: room for the first
pub room_before : {w : Writer} {a : List ℕ} (b : List ℕ) → Room w (a ++ b) → Room w a
room_before {w} {a} b r = record { room = omega (arith, r.room, length-append a b) }

-- and, once the first is put, room for the second
pub room_behind : {u v : Writer} {a b : List ℕ} → Puts u a v → Room u (a ++ b) → Room v b
room_behind {u} {v} {a} {b} p r = record { room = omega (arith, r.room, length-append a b, p.ends, p.keeps) }

-- a list that grows with each step is longest at the last
pub grows : (f : ℕ → List ℕ) → ((k : ℕ) → length (f k) ≤ length (f (suc k))) → (i k : ℕ) → i ≤ k → length (f i) ≤ length (f k)
grows f step i zero h = omega (arith, ap (λ z. length (f z)) (none i h))
  where
    none : (j : ℕ) → j ≤ 0 → j ≡ 0
    none j l = omega arith
grows f step i (suc k) h = go (λ l. grows f step i k l) (ltb i (suc k)) refl
  where
    go : (i ≤ k → length (f i) ≤ length (f k)) → (b : Bool) → ltb i (suc k) ≡ b → length (f i) ≤ length (f (suc k))
    go g true e = omega (arith, g (omega (arith, ltb-true i (suc k) e)), step k)
    go g false e = omega (arith, ap (λ z. length (f z)) (last (ltb-false i (suc k) e)))
      where
        last : suc k ≤ i → i ≡ suc k
        last l = omega arith

-- room for the next step of a list that grows to n steps
pub step_room : {u v : Writer} (f : ℕ → List ℕ)
    → ((k : ℕ) → length (f k) ≤ length (f (suc k))) → (i n : ℕ) (b : List ℕ)
    → f (suc i) ≡ f i ++ b → i < n → Puts u (f i) v → Room u (f n) → Room v b
step_room f step i n b e h p r = room_behind p (record { room = omega (arith, r.room, grows f step (suc i) n (omega arith), ap length e) })
