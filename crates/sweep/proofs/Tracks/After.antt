-- What stands on each track after an action.
use Prim.Native.Nat.{ℕ, zero, suc, ◌+◌, ◌≤◌, ◌<◌, zero-le}
use mathlib.Core.Path.{◌≡◌, refl, sym, ap, ◌∙◌}
use mathlib.Core.Logic.{◌⊎◌, inl, inr, ◌≢◌, ⊎_elim}
use mathlib.Core.Bool.{Bool, true, false}
use mathlib.Core.List.{List, [], ◌∷◌}
use native.Mathlib.Omega.{arith}
use native.Mathlib.Decide.{ℕ_discrete}
use lib.Dec.{eqb}
use lib.ListN.{length, get_or, set, length-set, length-map}
use lib.Seq.{get_or-set_same, get_or-set_other}
use Rattle.grid.specs.Channel.{pick, bit, times}
use Rattle.grid.proofs.Tests.{Same, same, diff, same_by, eq_bit, eqb_same, eqb_diff, pick_same}
use Rattle.grid.proofs.Counting.{at_below, none_times}
use Rattle.sweep.specs.declared.Action.{Action}
use Rattle.sweep.specs.Tracks.{give, clear, after}
use Rattle.sweep.proofs.Tracks.Strands.{Strand}

-- A TRACK GIVEN, A NET ENDED

-- neither changes the number of tracks
pub length-clear : (w : ℕ) (tr : List ℕ) → length (clear w tr) ≡ length tr
unfolding clear
length-clear w tr = length-map tr (λ x. pick (eqb x w) 0 x)

pub length-give : (y x : ℕ) (tr : List ℕ) → length (give y x tr) ≡ length tr
unfolding give
length-give zero x tr = refl
length-give (suc y) x tr = length-set tr y x

-- the track that is given holds its net
give_same : (y v : ℕ) (tr : List ℕ) (j : ℕ) → y ≡ suc j → j < length tr → get_or (give y v tr) j 0 ≡ v
unfolding give
give_same y v tr j e p = rw e (get_or-set_same tr j v 0 p)

-- the others hold what they held
pub give_other : (y v : ℕ) (tr : List ℕ) (j : ℕ) → y ≢ suc j → get_or (give y v tr) j 0 ≡ get_or tr j 0
unfolding give
give_other zero v tr j n = refl
give_other (suc y) v tr j n = get_or-set_other tr y j v 0 (omega arith)

-- a net's track was given to it, or was its own
give_back : (y v : ℕ) (tr : List ℕ) (j N : ℕ) → N ≢ 0 → get_or (give y v tr) j 0 ≡ N → ((y ≡ suc j) × (v ≡ N)) ⊎ ((y ≢ suc j) × (get_or tr j 0 ≡ N))
give_back y v tr j N n e = go (ℕ_discrete y (suc j))
  where
    go : Dec (y ≡ suc j) → ((y ≡ suc j) × (v ≡ N)) ⊎ ((y ≢ suc j) × (get_or tr j 0 ≡ N))
    go (yes i) = inl (i, sym (give_same y v tr j i (rw length-give at (at_below (give y v tr) j N n e))) ∙ e)
    go (no i) = inr (i, sym (give_other y v tr j i) ∙ e)

-- a track once net w has ended
pub clear_get : (w : ℕ) (tr : List ℕ) (j : ℕ) → get_or (clear w tr) j 0 ≡ pick (eqb (get_or tr j 0) w) 0 (get_or tr j 0)
unfolding clear
clear_get w [] j = sym (pick_same (eqb 0 w) 0)
clear_get w (x ∷ xs) zero = refl
clear_get w (x ∷ xs) (suc j) = clear_get w xs j

-- a net's track was its own, and the net is not the one that ended
pub clear_back : (w : ℕ) (tr : List ℕ) (j N : ℕ) → N ≢ 0 → get_or (clear w tr) j 0 ≡ N → (get_or tr j 0 ≡ N) × (w ≢ N)
clear_back w tr j N n e = go (eqb (get_or tr j 0) w) (same_by (get_or tr j 0) w) (sym (clear_get w tr j) ∙ e)
  where
    go : (q : Bool) → Same (get_or tr j 0) w q → pick q 0 (get_or tr j 0) ≡ N → (get_or tr j 0 ≡ N) × (w ≢ N)
    go true s f = absurd (n (sym f))
    go false (diff d) f = (f, λ i. d (f ∙ sym i))

-- another net's track stays its own
pub clear_keep : (w : ℕ) (tr : List ℕ) (j N : ℕ) → w ≢ N → get_or tr j 0 ≡ N → get_or (clear w tr) j 0 ≡ N
clear_keep w tr j N n e = clear_get w tr j ∙ go (eqb (get_or tr j 0) w) (same_by (get_or tr j 0) w) ∙ e
  where
    go : (q : Bool) → Same (get_or tr j 0) w q → pick q 0 (get_or tr j 0) ≡ get_or tr j 0
    go true (same s) = absurd (n (sym s ∙ e))
    go false d = refl

-- a free track, and one of the net that ended, are free
pub clear-free : (w : ℕ) (tr : List ℕ) (j : ℕ) → (get_or tr j 0 ≡ 0) ⊎ (get_or tr j 0 ≡ w) → get_or (clear w tr) j 0 ≡ 0
clear-free w tr j o = clear_get w tr j ∙ go (eqb (get_or tr j 0) w) (same_by (get_or tr j 0) w) o
  where
    go : (q : Bool) → Same (get_or tr j 0) w q → (get_or tr j 0 ≡ 0) ⊎ (get_or tr j 0 ≡ w) → pick q 0 (get_or tr j 0) ≡ 0
    go true s o = refl
    go false s (inl e) = e
    go false (diff d) (inr e) = absurd (d e)

-- AN ACTION

-- the action gives track j + 1 to net N
pub data Gives (x : Action) (j N : ℕ) : Type 0 where
  one : x.gift1.track ≡ suc j → x.gift1.net ≡ N → Gives x j N
  two : x.gift2.track ≡ suc j → x.gift2.net ≡ N → Gives x j N
  three : x.gift3.track ≡ suc j → x.gift3.net ≡ N → Gives x j N

-- by the three
pub gives : {x : Action} {j N : ℕ} {C : Type 0}
    → (x.gift1.track ≡ suc j → x.gift1.net ≡ N → C) → (x.gift2.track ≡ suc j → x.gift2.net ≡ N → C) → (x.gift3.track ≡ suc j → x.gift3.net ≡ N → C) → Gives x j N → C
gives a b c (one e f) = a e f
gives a b c (two e f) = b e f
gives a b c (three e f) = c e f

-- no track is given twice
pub record Distinct (x : Action) : Type 0 where
  pub d12 : (j : ℕ) → x.gift1.track ≡ suc j → x.gift2.track ≢ suc j
  pub d13 : (j : ℕ) → x.gift1.track ≡ suc j → x.gift3.track ≢ suc j
  pub d23 : (j : ℕ) → x.gift2.track ≡ suc j → x.gift3.track ≢ suc j

-- one track at most is given; two at most
pub one_track : (x : Action) → x.gift2.track ≡ 0 → x.gift3.track ≡ 0 → Distinct x
one_track x a b = record { d12 = λ j e. omega arith; d13 = λ j e. omega arith; d23 = λ j e. omega arith }

pub two_tracks : (x : Action) → x.gift1.track ≢ x.gift2.track → x.gift3.track ≡ 0 → Distinct x
two_tracks x a b = record { d12 = λ j e f. a (e ∙ sym f); d13 = λ j e. omega arith; d23 = λ j e. omega arith }

module _ (x : Action) (tr : List ℕ) where
  -- as many tracks leave as come in
  pub after-length : length (after x tr) ≡ length tr
  unfolding after
  after-length = simp (length-give, length-clear)

  -- what leaves was given, or ran straight
  pub after_back : (j N : ℕ) → N ≢ 0 → get_or (after x tr) j 0 ≡ N → Gives x j N ⊎ ((get_or tr j 0 ≡ N) × (x.ended ≢ N) × (x.closed ≢ N))
  unfolding after
  after_back j N n e =
      ⊎_elim (λ d. inl (three d.0 d.1)) (λ d.
      ⊎_elim (λ d. inl (two d.0 d.1)) (λ d.
      ⊎_elim (λ d. inl (one d.0 d.1)) (λ d.
      let (f, c) = clear_back x.closed (clear x.ended tr) j N n d.1 in
      let (g, b) = clear_back x.ended tr j N n f in
      inr (g, b, c))
      (give_back x.gift1.track x.gift1.net (clear x.closed (clear x.ended tr)) j N n d.1))
      (give_back x.gift2.track x.gift2.net (give x.gift1.track x.gift1.net (clear x.closed (clear x.ended tr))) j N n d.1))
      (give_back x.gift3.track x.gift3.net (give x.gift2.track x.gift2.net (give x.gift1.track x.gift1.net (clear x.closed (clear x.ended tr)))) j N n e)

  -- a strand of a net that does not end, on a track that is not given, runs straight
  pub runs_on : {N y : ℕ} → Strand N tr y → x.ended ≢ N → x.closed ≢ N → x.gift1.track ≢ y → x.gift2.track ≢ y → x.gift3.track ≢ y → Strand N (after x tr) y
  unfolding after
  runs_on {N} s b c p q r = record {
    index = s.index;
    is = s.is;
    inside = rw after-length s.inside;
    holds =
        give_other x.gift3.track x.gift3.net _ s.index (λ i. r (i ∙ sym s.is)) ∙ give_other x.gift2.track x.gift2.net _ s.index (λ i. q (i ∙ sym s.is))
        ∙ give_other x.gift1.track x.gift1.net _ s.index (λ i. p (i ∙ sym s.is))
        ∙ clear_keep x.closed (clear x.ended tr) s.index N c (clear_keep x.ended tr s.index N b s.holds);
  }

  -- a net leaves on the track that it is given
  module _ (d : Distinct x) {u y : ℕ} (s : Strand u tr y) where
    -- that track is one of the t
    within_given : s.index < length (clear x.closed (clear x.ended tr))
    within_given = simp length-clear s.inside

    -- the first
    pub one_leaves : x.gift1.track ≡ y → Strand x.gift1.net (after x tr) y
    unfolding after
    one_leaves e = let i : x.gift1.track ≡ suc s.index = e ∙ s.is in record {
      index = s.index;
      is = s.is;
      inside = rw after-length s.inside;
      holds = give_other x.gift3.track x.gift3.net _ s.index (d.d13 _ i) ∙ give_other x.gift2.track x.gift2.net _ s.index (d.d12 _ i) ∙ give_same x.gift1.track
          x.gift1.net _ s.index i within_given;
    }

    -- the second
    pub two_leaves : x.gift2.track ≡ y → Strand x.gift2.net (after x tr) y
    unfolding after
    two_leaves e = let i : x.gift2.track ≡ suc s.index = e ∙ s.is in record {
      index = s.index;
      is = s.is;
      inside = rw after-length s.inside;
      holds = give_other x.gift3.track x.gift3.net _ s.index (d.d23 _ i) ∙ give_same x.gift2.track x.gift2.net _ s.index i (rw length-give within_given);
    }

    -- the third
    pub three_leaves : x.gift3.track ≡ y → Strand x.gift3.net (after x tr) y
    unfolding after
    three_leaves e = let i : x.gift3.track ≡ suc s.index = e ∙ s.is in record {
      index = s.index;
      is = s.is;
      inside = rw after-length s.inside;
      holds = give_same x.gift3.track x.gift3.net _ s.index i (rw (length-give, length-give) within_given);
    }

-- HOW MANY STRANDS LEAVE

-- a track that is set adds one strand at most
times-set : (v : ℕ) (l : List ℕ) (i w : ℕ) → times v (set l i w) ≤ times v l + bit (eqb w v)
unfolding times
times-set v [] i w = omega arith
times-set v (x ∷ xs) zero w = omega arith
times-set v (x ∷ xs) (suc i) w = omega (arith, times-set v xs i w)

-- what track y, given to net w, is for net v: a strand, or none
abbrev pub gift : (v y w : ℕ) → ℕ
gift v zero w = 0
gift v (suc y) w = bit (eqb w v)

-- so does a track that is given
times-give : (v y w : ℕ) (l : List ℕ) → times v (give y w l) ≤ times v l + gift v y w
unfolding give
times-give v zero w l = omega arith
times-give v (suc y) w l = times-set v l y w

-- a gift is one strand at most, and none for another net
pub gift_le : (v y w : ℕ) → gift v y w ≤ bit (eqb w v)
gift_le v zero w = zero-le
gift_le v (suc y) w = omega arith

pub gift_other : (v y w : ℕ) → w ≢ v → gift v y w ≡ 0
gift_other v y w n = omega (arith, gift_le v y w, eqb_diff w v n)

-- the strands that an action gives net v
abbrev pub gifts : (v : ℕ) (x : Action) → ℕ
gifts v x = gift v x.gift1.track x.gift1.net + (gift v x.gift2.track x.gift2.net + gift v x.gift3.track x.gift3.net)

-- a net that stands wherever it stood has as many strands at least
pub times_more : (v : ℕ) (l r : List ℕ) → v ≢ 0 → ((j : ℕ) → get_or l j 0 ≡ v → get_or r j 0 ≡ v) → times v l ≤ times v r
unfolding times
times_more v [] r n f = zero-le
times_more v (x ∷ xs) [] n f = omega (arith, none_times v (x ∷ xs) (λ j p e. n (sym (f j e))))
times_more v (x ∷ xs) (y ∷ ys) n f =
    let ih = times_more v xs ys n (λ j. f (suc j)) in
    ⊎_elim (λ d. let e = f 0 d.0 in omega (arith, d.1, ap (λ (z : ℕ). bit (eqb z v)) e, eqb_same v)) (λ d. omega (arith, d.1)) (eq_bit x v)

module _ (x : Action) (tr : List ℕ) where
  -- a net has no more strands than before, and those given
  pub after-times : (v : ℕ) → v ≢ 0 → times v (after x tr) ≤ times v tr + gifts v x
  unfolding after
  after-times v n =
      let base = clear x.closed (clear x.ended tr) in
      omega (
        arith,
        times-give v x.gift3.track x.gift3.net (give x.gift2.track x.gift2.net (give x.gift1.track x.gift1.net base)),
        times-give v x.gift2.track x.gift2.net (give x.gift1.track x.gift1.net base),
        times-give v x.gift1.track x.gift1.net base,
        less x.closed (clear x.ended tr),
        less x.ended tr,
      )
    where
      less : (w : ℕ) (l : List ℕ) → times v (clear w l) ≤ times v l
      less w l = times_more v (clear w l) l n (λ j e. (clear_back w l j v n e).0)

  -- a net whose strands end has those given alone
  pub after_ended : (v : ℕ) → v ≢ 0 → (x.ended ≡ v) ⊎ (x.closed ≡ v) → times v (after x tr) ≤ gifts v x
  unfolding after
  after_ended v n o =
      let base = clear x.closed (clear x.ended tr) in
      let z : times v base ≡ 0 = none_times v base (λ j p e. gone j (clear_back x.closed (clear x.ended tr) j v n e)) in
      omega (
        arith,
        times-give v x.gift3.track x.gift3.net (give x.gift2.track x.gift2.net (give x.gift1.track x.gift1.net base)),
        times-give v x.gift2.track x.gift2.net (give x.gift1.track x.gift1.net base),
        times-give v x.gift1.track x.gift1.net base,
      )
    where
      gone : (j : ℕ) → (get_or (clear x.ended tr) j 0 ≡ v) × (x.closed ≢ v) → ⊥
      gone j (e, k) = ⊎_elim (λ i. (clear_back x.ended tr j v n e).1 i) (λ i. k i) o
