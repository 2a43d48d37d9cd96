-- The rank of a number in a list, lists that grow by a net that is new, and both under a renaming. Assumes nothing.
use Prim.Native.Nat.{ℕ, zero, suc, ◌+◌, ◌≤◌}
use mathlib.Core.Path.{◌≡◌, refl, sym, ap, ap₂, ◌∙◌}
use mathlib.Core.Logic.{◌≢◌, ⊎_elim}
use mathlib.Core.Bool.{Bool, true, false}
use mathlib.Core.List.{List, [], ◌∷◌, ◌++◌, map, map-append}
use native.Mathlib.Omega.{arith}
use lib.Dec.{eqb}
use lib.ListN.{length, get_or, length-append}
use Rattle.grid.specs.Channel.{pick, bit, times}
use Rattle.grid.proofs.Counting.{times-append}
use Rattle.grid.proofs.Tests.{eq-eqb, ne_eqb, eq_bit, Same, same, diff, same_by}
use Rattle.record.proofs.Words.{append_all}
use Rattle.canonical.specs.Renaming.{shifted, rank, with_net}

pub suc_not : (k : ℕ) → suc k ≢ 0
suc_not k e = let x : ⊥ = omega arith in x

shifted_zero : (k : ℕ) → shifted k ≡ 0 → k ≡ 0
shifted_zero zero e = refl
shifted_zero (suc k) e = absurd (omega arith)

-- THE RANK OF A NUMBER

-- a rank is at most the list's length
pub rank_le : (v : ℕ) (l : List ℕ) → rank v l ≤ length l
unfolding rank
rank_le v [] = omega arith
rank_le v (x ∷ xs) = go (eqb x v) (rank v xs) (rank_le v xs)
  where
    go : (q : Bool) (k : ℕ) → k ≤ length xs → pick q 1 (shifted k) ≤ suc (length xs)
    go true k h = omega arith
    go false zero h = omega arith
    go false (suc k) h = omega arith

-- at its rank stands the number
pub rank_at : (v : ℕ) (l : List ℕ) → rank v l ≢ 0 → get_or (0 ∷ l) (rank v l) 0 ≡ v
unfolding rank
rank_at v [] h = absurd (h refl)
rank_at v (x ∷ xs) h = go (eqb x v) (same_by x v) (rank v xs) (rank_at v xs) h
  where
    go : (q : Bool) → Same x v q → (k : ℕ) → (k ≢ 0 → get_or (0 ∷ xs) k 0 ≡ v) → pick q 1 (shifted k) ≢ 0
        → get_or (0 ∷ x ∷ xs) (pick q 1 (shifted k)) 0 ≡ v
    go true (same e) k ih n = e
    go false s zero ih n = absurd (n refl)
    go false s (suc k) ih n = ih (suc_not k)

-- a number that stands in a list keeps its rank, whatever follows
pub rank_old : (v : ℕ) (l r : List ℕ) → rank v l ≢ 0 → rank v (l ++ r) ≡ rank v l
unfolding rank
rank_old v [] r h = absurd (h refl)
rank_old v (x ∷ xs) r h = go (eqb x v) (rank v xs) (rank_old v xs r) h
  where
    go : (q : Bool) (k : ℕ) → (k ≢ 0 → rank v (xs ++ r) ≡ k) → pick q 1 (shifted k) ≢ 0 → pick q 1 (shifted (rank v (xs ++ r))) ≡ pick q 1 (shifted k)
    go true k ih n = refl
    go false zero ih n = absurd (n refl)
    go false (suc k) ih n = ap shifted (ih (suc_not k))

-- one that does not stands at the end, or nowhere
pub rank_new : (v x : ℕ) (l : List ℕ) → rank v l ≡ 0 → rank v (l ++ (x ∷ [])) ≡ pick (eqb x v) (suc (length l)) 0
unfolding rank
rank_new v x [] h = refl
rank_new v x (y ∷ ys) h = go (eqb y v) h (rank_new v x ys)
  where
    end : (q : Bool) → shifted (pick q (suc (length ys)) 0) ≡ pick q (suc (suc (length ys))) 0
    end true = refl
    end false = refl

    go : (q : Bool) → pick q 1 (shifted (rank v ys)) ≡ 0 → (rank v ys ≡ 0 → rank v (ys ++ (x ∷ [])) ≡ pick (eqb x v) (suc (length ys)) 0)
        → pick q 1 (shifted (rank v (ys ++ (x ∷ [])))) ≡ pick (eqb x v) (suc (suc (length ys))) 0
    go true n ih = absurd (omega arith)
    go false n ih = ap shifted (ih (shifted_zero (rank v ys) n)) ∙ end (eqb x v)

-- a number without a rank does not stand there
pub rank-times : (v : ℕ) (l : List ℕ) → rank v l ≡ 0 → times v l ≡ 0
unfolding rank times
rank-times v [] h = refl
rank-times v (x ∷ xs) h = go (eqb x v) h (rank-times v xs)
  where
    go : (q : Bool) → pick q 1 (shifted (rank v xs)) ≡ 0 → (rank v xs ≡ 0 → times v xs ≡ 0) → bit q + times v xs ≡ 0
    go true n ih = absurd (omega arith)
    go false n ih = omega (arith, ih (shifted_zero (rank v xs) n))

-- A NET MORE

-- a list with net v: v is no net, is one of them, or stands at the end
pub data WithNet (l : List ℕ) (v : ℕ) : List ℕ → Type 0 where
  empty : v ≡ 0 → WithNet l v l
  known : v ≢ 0 → rank v l ≢ 0 → WithNet l v l
  new : v ≢ 0 → rank v l ≡ 0 → WithNet l v (l ++ (v ∷ []))

pub with_net_by : (l : List ℕ) (v : ℕ) → WithNet l v (with_net l v)
unfolding with_net
with_net_by l v = go (eqb v 0) (same_by v 0) (eqb (rank v l) 0) (same_by (rank v l) 0)
  where
    go : (p : Bool) → Same v 0 p → (q : Bool) → Same (rank v l) 0 q → WithNet l v (pick p l (pick q (l ++ (v ∷ [])) l))
    go true (same e) q t = empty e
    go false (diff n) true (same e) = new n e
    go false (diff n) false (diff m) = known n m

-- those before keep their ranks
pub with_net_old : (l : List ℕ) (x v : ℕ) → rank v l ≢ 0 → rank v (with_net l x) ≡ rank v l
with_net_old l x v h = go (with_net l x) (with_net_by l x)
  where
    go : (m : List ℕ) → WithNet l x m → rank v m ≡ rank v l
    go m (empty e) = refl
    go m (known n k) = refl
    go m (new n k) = rank_old v l (x ∷ []) h

-- the net is one of them
pub with_net_has : (l : List ℕ) (x : ℕ) → x ≢ 0 → rank x (with_net l x) ≢ 0
with_net_has l x h = go (with_net l x) (with_net_by l x)
  where
    end : rank x l ≡ 0 → rank x (l ++ (x ∷ [])) ≡ suc (length l)
    end k = rank_new x x l k ∙ ap (λ q. pick q (suc (length l)) 0) (eq-eqb x x refl)

    go : (m : List ℕ) → WithNet l x m → rank x m ≢ 0
    go m (empty e) = absurd (h e)
    go m (known n k) = k
    go m (new n k) = λ e. suc_not (length l) (sym (end k) ∙ e)

-- 0 is none of them
pub with_net_none : (l : List ℕ) (x : ℕ) → rank 0 l ≡ 0 → rank 0 (with_net l x) ≡ 0
with_net_none l x h = go (with_net l x) (with_net_by l x)
  where
    go : (m : List ℕ) → WithNet l x m → rank 0 m ≡ 0
    go m (empty e) = h
    go m (known n k) = h
    go m (new n k) = rank_new 0 x l h ∙ ap (λ q. pick q (suc (length l)) 0) (ne_eqb x 0 n)

-- each stands there once
pub with_net_once : (l : List ℕ) (x v : ℕ) → times v l ≤ 1 → times v (with_net l x) ≤ 1
unfolding times
with_net_once l x v h = go (with_net l x) (with_net_by l x)
  where
    last : rank x l ≡ 0 → times v (l ++ (x ∷ [])) ≤ 1
    last k =
        ⊎_elim
        (λ d. omega (arith, times-append v l (x ∷ []), rank-times x l k, ap (λ z. times z l) d.0))
        (λ d. omega (arith, times-append v l (x ∷ [])))
        (eq_bit x v)

    go : (m : List ℕ) → WithNet l x m → times v m ≤ 1
    go m (empty e) = h
    go m (known n k) = h
    go m (new n k) = last k

-- one more at most
pub with_net-length : (l : List ℕ) (x : ℕ) → length (with_net l x) ≤ length l + 1
with_net-length l x = go (with_net l x) (with_net_by l x)
  where
    go : (m : List ℕ) → WithNet l x m → length m ≤ length l + 1
    go m (empty e) = omega arith
    go m (known n k) = omega arith
    go m (new n k) = omega (arith, length-append l (x ∷ []))

-- what holds of each number of a list, and of 0, holds of those of the list with a net
pub with_net_all : (P : ℕ → Type 0) (l : List ℕ) (x : ℕ) → P 0 → P x → ((i : ℕ) → P (get_or l i 0)) → (i : ℕ) → P (get_or (with_net l x) i 0)
with_net_all P l x z p h i = go (with_net l x) (with_net_by l x)
  where
    one : (j : ℕ) → P (get_or (x ∷ []) j 0)
    one zero = p
    one (suc j) = z

    go : (m : List ℕ) → WithNet l x m → P (get_or m i 0)
    go m (empty e) = h i
    go m (known n k) = h i
    go m (new n k) = append_all P l (x ∷ []) h one i

-- RENAMED LISTS

-- a list none of whose numbers becomes f v, but v
abbrev pub Apart : (ℕ → ℕ) → ℕ → List ℕ → Type 0
Apart f v l = (i : ℕ) → f (get_or l i 0) ≡ f v → get_or l i 0 ≡ v

-- two numbers are one after the renaming, or are not, as before
pub same_test : (f : ℕ → ℕ) (x v : ℕ) → (f x ≡ f v → x ≡ v) → eqb (f x) (f v) ≡ eqb x v
same_test f x v h = go (eqb x v) (same_by x v)
  where
    go : (q : Bool) → Same x v q → eqb (f x) (f v) ≡ q
    go true (same e) = eq-eqb (f x) (f v) (ap f e)
    go false (diff n) = ne_eqb (f x) (f v) (λ e. n (h e))

-- the rank of a renamed number
pub rank-map : (f : ℕ → ℕ) (v : ℕ) (l : List ℕ) → Apart f v l → rank (f v) (map f l) ≡ rank v l
unfolding rank
rank-map f v [] h = refl
rank-map f v (x ∷ xs) h = ap₂ (λ q k. pick q 1 (shifted k)) (same_test f x v (h 0)) (rank-map f v xs (λ i. h (suc i)))

-- and how often it stands there
pub times-map : (f : ℕ → ℕ) (v : ℕ) (l : List ℕ) → Apart f v l → times (f v) (map f l) ≡ times v l
unfolding times
times-map f v [] h = refl
times-map f v (x ∷ xs) h = ap₂ (λ q k. bit q + k) (same_test f x v (h 0)) (times-map f v xs (λ i. h (suc i)))

-- a renamed list with a renamed net
pub with_net-map : (f : ℕ → ℕ) (l : List ℕ) (x : ℕ) → f 0 ≡ 0 → (f x ≡ 0 → x ≡ 0) → Apart f x l → with_net (map f l) (f x) ≡ map f (with_net l x)
with_net-map f l x z n h = go (with_net l x) (with_net_by l x) (with_net (map f l) (f x)) (with_net_by (map f l) (f x))
  where
    e : rank (f x) (map f l) ≡ rank x l
    e = rank-map f x l h

    go : (m : List ℕ) → WithNet l x m → (w : List ℕ) → WithNet (map f l) (f x) w → w ≡ map f m
    go m (empty a) w (empty b) = refl
    go m (empty a) w (known b c) = refl
    go m (empty a) w (new b c) = absurd (b (ap f a ∙ z))
    go m (known a d) w (empty b) = refl
    go m (known a d) w (known b c) = refl
    go m (known a d) w (new b c) = absurd (d (sym e ∙ c))
    go m (new a d) w (empty b) = absurd (a (n b))
    go m (new a d) w (known b c) = absurd (c (e ∙ d))
    go m (new a d) w (new b c) = sym (map-append f l (x ∷ []))
