-- The board after a change: its counts are mended, its rows have the change made, and so the call keeps its promise. Assumes nothing.
use Prim.Native.Nat.{ℕ, ◌+◌, ◌-◌, ◌≤◌, ◌<◌, min, max}
use mathlib.Core.Path.{◌≡◌, refl, sym, ap, ap₂, subst, ◌∙◌}
use mathlib.Core.Logic.{◌≢◌, ◌⊎◌, inl, inr}
use mathlib.Core.Bool.{Bool, true, false, not, ◌&&◌, ◌||◌}
use mathlib.Core.List.{List, ◌++◌}
use native.Mathlib.Omega.{arith}
use native.Mathlib.Decide.{ℕ_discrete}
use lib.Dec.{eqb, ltb, leb}
use lib.ListN.{length, get_or, take, drop, take-append-drop}
use Rattle.grid.specs.Channel.{pick, bit, pins, right, is_open, open_at}
use Rattle.grid.specs.Nets.{first_column, last_column}
use Rattle.grid.specs.Refusals.{if_accepted}
use Rattle.grid.proofs.Answers.{accepted_new, accepted_old}
use Rattle.grid.proofs.Nets.{no_last, goes_on, open_columns}
use Rattle.grid.proofs.OpenNets.{open_le}
use Rattle.grid.proofs.Places.{padded-row, padded_other, part_length}
use Rattle.grid.proofs.Rows.{before, left-right, no_right}
use Rattle.grid.proofs.Tests.{and_true, leb-true, ltb-true, lt-ltb, le-leb, ltb-false, le-ltb, eq-eqb, ne_eqb, not_both, and_none, Below, below, above, below_by}
use Rattle.placing.specs.Placing.{place_refused, placed_top, placed_bottom}
use Rattle.placing.proofs.Pins.{both_length}
use Rattle.placing.proofs.Terminals.{Free, Accepted, accepted_by}
use Rattle.board.specs.Changes.{Channel, Change, Add, Drop, drop_refused, without_net, change_refused, changed, after_change}
use Rattle.board.specs.Board.{Board, board_with, counts_of, board_of, StandsFor, Makes}
use Rattle.board.specs.Working.{Mended}
use Rattle.board.proofs.Stored.{counts_length, counts_at, counts_by, columns_of_lem, top_of, bottom_of_lem, counts_of_lem, board_by, held_columns}
use Rattle.board.proofs.With.{open_placed}
use Rattle.board.proofs.Without.{without_length, open_without}

-- THE COUNTS

-- a count with a net more, and one with a net less; on no channel's board is it at its limit, or 0 where a net is dropped
abbrev pub more : ℕ → ℕ
more x = min (x + 1) 65535

abbrev pub less : ℕ → ℕ
less x = x - 1

-- what a change of a count says of it, before and after
abbrev pub Changes : (R : ℕ → ℕ → Type 0) (f : ℕ → ℕ) → Type 0
Changes R f = (x y : ℕ) → x ≤ 256 → R x y → y ≡ f x

-- a channel's counts, mended
module _ (ch : Channel) {first last : ℕ} {R : ℕ → ℕ → Type 0} {ks ks' : List ℕ} (f : ℕ → ℕ) (by : Changes R f) (e : ks ≡ counts_of ch)
    (m : Mended first last R ks ks') where
  mended_length : length ks' ≡ 256
  mended_length = m.size ∙ ap length e ∙ counts_length ch

  -- q is whether gap g is one of those that are mended
  mended_at : (g : ℕ) → g < 256 → (q : Bool) → (leb first g && ltb g last) ≡ q
      → get_or ks' g 0 ≡ pick q (f (open_at ch.top ch.bottom g)) (open_at ch.top ch.bottom g)
  mended_at g h q t = go q t
    where
      stored : get_or ks g 0 ≡ open_at ch.top ch.bottom g
      stored = ap (λ (l : List ℕ). get_or l g 0) e ∙ counts_at ch g h

      go : (q : Bool) → (leb first g && ltb g last) ≡ q → get_or ks' g 0 ≡ pick q (f (open_at ch.top ch.bottom g)) (open_at ch.top ch.bottom g)
      go true i =
          let (x, y) = and_true (leb first g) (ltb g last) i in
          by _ _ (open_le ch.top ch.bottom g) (subst (λ (k : ℕ). R k (get_or ks' g 0)) stored (m.changed g (leb-true first g x) (ltb-true g last y)))
      go false i = m.kept g (λ x y. not_both (ap₂ ◌&&◌ (le-leb first g x) (lt-ltb g last y)) i) ∙ stored

raised : (q : Bool) (x : ℕ) → x ≤ 256 → pick q (more x) x ≡ x + bit q
raised true x h = omega arith
raised false x h = omega arith

-- a new net is open at the gaps between its columns
counts_raised : (ch : Channel) (net column1 side1 column2 side2 : ℕ) → Accepted ch.top ch.bottom 0 net column1 side1 column2 side2
    → (first last : ℕ) → first ≡ min column1 column2 → last ≡ max column1 column2 → (R : ℕ → ℕ → Type 0) → Changes R more → (ks ks' : List ℕ)
    → ks ≡ counts_of ch → Mended first last R ks ks'
    → ks' ≡ counts_of (changed ch (Add net column1 side1 column2 side2))
unfolding changed
counts_raised ch net column1 side1 column2 side2 a first last f l R r ks ks' e m =
    counts_by (changed ch (Add net column1 side1 column2 side2)) ks' (mended_length ch more r e m) (λ g h.
    let q : Bool = leb (min column1 column2) g && ltb g (max column1 column2) in
    mended_at ch more r e m g h q (ap₂ (λ (x y : ℕ). leb x g && ltb g y) f l)
    ∙ raised q (open_at ch.top ch.bottom g) (open_le ch.top ch.bottom g)
    ∙ sym (open_placed ch.top ch.bottom net column1 side1 column2 side2 a g))

-- a net without a first column has no last
pub none_last : (top bottom : List ℕ) (net : ℕ) → net ≢ 0 → first_column top bottom net ≡ 0 → last_column top bottom net ≡ 0
unfolding first_column last_column
none_last top bottom net n e = no_last top bottom net n (length top) e

-- a net is open at the gaps from its first column to one before its last
open_between : (top bottom : List ℕ) (net : ℕ) → net ≢ 0 → length top ≡ length bottom → (g : ℕ)
    → (leb (first_column top bottom net) g && ltb g (last_column top bottom net)) ≡ is_open top bottom g net
open_between top bottom net n s g = go (ℕ_discrete f 0) ∙ sym (open_columns top bottom net n s g)
  where
    f : ℕ
    f = first_column top bottom net

    l : ℕ
    l = last_column top bottom net

    go : Dec (f ≡ 0) → (leb f g && ltb g l) ≡ ((not (eqb f 0) && leb f g) && ltb g l)
    go (yes e) =
        and_none (leb f g) (ltb g l) (le-ltb g l (omega (arith, none_last top bottom net n e)))
        ∙ ap (λ (b : Bool). (not b && leb f g) && ltb g l) (sym (eq-eqb f 0 e))
    go (no d) = ap (λ (b : Bool). (not b && leb f g) && ltb g l) (sym (ne_eqb f 0 d))

lowered : (q : Bool) (x y : ℕ) → x + bit q ≡ y → pick q (less y) y ≡ x
lowered true x y e = omega arith
lowered false x y e = omega arith

-- a dropped one was open there
counts_lowered : (ch : Channel) (net : ℕ) → net ≢ 0 → net ≤ 256 → length ch.top ≡ length ch.bottom → (first last : ℕ)
    → first ≡ first_column ch.top ch.bottom net → last ≡ last_column ch.top ch.bottom net
    → (R : ℕ → ℕ → Type 0) → Changes R less → (ks ks' : List ℕ) → ks ≡ counts_of ch → Mended first last R ks ks' → ks' ≡ counts_of (changed ch (Drop net))
unfolding changed
counts_lowered ch net a b s first last f l R r ks ks' e m =
    counts_by (changed ch (Drop net)) ks' (mended_length ch less r e m) (λ g h.
    let q : Bool = is_open ch.top ch.bottom g net in
    mended_at ch less r e m g h q (ap₂ (λ (x y : ℕ). leb x g && ltb g y) f l ∙ open_between ch.top ch.bottom net a s g)
    ∙ lowered q (open_at (without_net net ch.top) (without_net net ch.bottom) g) _ (open_without net ch.top ch.bottom g (omega (arith, a)) b))

-- A NET'S LAST COLUMN

module _ (top bottom : List ℕ) (net : ℕ) (n : net ≢ 0) (s : length top ≡ length bottom) where
  -- there is none just if the net has no pin
  last-pins : eqb (last_column top bottom net) 0 ≡ eqb (pins top bottom net) 0
  last-pins = go (ltb 0 l) (below_by 0 l) (ltb 0 (right top bottom 0 net)) (below_by 0 (right top bottom 0 net)) (goes_on top bottom net n s 0)
    where
      l : ℕ
      l = last_column top bottom net

      all : right top bottom 0 net ≡ pins top bottom net
      all = omega (arith, before top bottom net, left-right top bottom net 0)

      go : (a : Bool) → Below 0 l a → (b : Bool) → Below 0 (right top bottom 0 net) b → b ≡ a → eqb l 0 ≡ eqb (pins top bottom net) 0
      go true (below p) true (below q) e = ne_eqb l 0 (omega arith) ∙ sym (ne_eqb (pins top bottom net) 0 (omega (arith, all)))
      go true x false y e = absurd (not_both refl (sym e))
      go false x true y e = absurd (not_both refl e)
      go false (above p) false (above q) e = eq-eqb l 0 (omega arith) ∙ sym (eq-eqb (pins top bottom net) 0 (omega (arith, all)))

  -- it is a column of the rows
  last_within : last_column top bottom net ≤ length top
  last_within =
      ltb-false (length top) (last_column top bottom net)
      (sym (goes_on top bottom net n s (length top))
      ∙ le-ltb 0 (right top bottom (length top) net) (omega (arith, no_right top bottom net (omega arith))))

-- A BOARD THAT STANDS FOR A CHANNEL, n being the columns held

module _ {columns n : ℕ} {xs ys ks : List ℕ} (limit : n ≡ min columns 256) {ch : Channel} (S : StandsFor ch (board_with columns xs ys ks)) where
  abbrev here : Board
  here = board_with columns xs ys ks

  top-columns : n ≡ length ch.top
  top-columns = held_columns ch here S n limit

  bottom-columns : n ≡ length ch.bottom
  bottom-columns = top-columns ∙ S.same

  -- the first n places of its arrays are the channel's rows
  top_part : take n xs ≡ ch.top
  top_part = ap (take n) (top_of here ch S.board) ∙ padded-row ch.top n top-columns

  bottom_part : take n ys ≡ ch.bottom
  bottom_part = ap (take n) (bottom_of_lem here ch S.board) ∙ padded-row ch.bottom n bottom-columns

  -- with the rows of another channel there, as long as these, and its counts, it stands for that
  other_rows : (other : Channel) (xs' ys' ks' : List ℕ) → xs' ≡ other.top → ys' ≡ other.bottom → ks' ≡ counts_of other
      → length other.top ≡ length ch.top → length other.bottom ≡ length ch.bottom
      → board_with columns (xs' ++ drop n xs) (ys' ++ drop n ys) ks' ≡ board_of other
  other_rows other xs' ys' ks' t b k p q =
      board_by other columns (xs' ++ drop n xs) (ys' ++ drop n ys) ks' (columns_of_lem here ch S.board ∙ sym p)
      (ap₂ (λ (l m : List ℕ). l ++ drop n m) t (top_of here ch S.board) ∙ padded_other ch.top other.top n top-columns p)
      (ap₂ (λ (l m : List ℕ). l ++ drop n m) b (bottom_of_lem here ch S.board) ∙ padded_other ch.bottom other.bottom n bottom-columns q) k

-- THE PROMISE OF A CALL

-- it refuses: its number is that of the change's refusal, and the board is as it was
makes_none : (change : Change) (r : ℕ) (x y : Board) → y ≡ x → r ≢ 0 → ((ch : Channel) → StandsFor ch x → r ≡ change_refused ch change) → Makes change r x y
unfolding after_change
makes_none change r x y same n number = record {
  answers = λ ch S. record {
    number = number ch S;
    board = same ∙ S.board ∙ ap board_of (sym (accepted_old (change_refused ch change) (changed ch change) ch (λ z. n (number ch S ∙ z))));
  };
  kept = λ m. same;
}

-- it does not: the board stands for the channel with the change made
makes_it : (change : Change) (x y : Board) → ((ch : Channel) → StandsFor ch x → (change_refused ch change ≡ 0) × (y ≡ board_of (changed ch change)))
    → Makes change 0 x y
unfolding after_change
makes_it change x y made = record {
  answers = λ ch S.
      let (number, board) = made ch S in
      record { number = sym number; board = board ∙ ap board_of (sym (accepted_new (change_refused ch change) (changed ch change) ch number)) };
  kept = λ m. absurd (m refl);
}

-- A NEW NET: xs and ys are the rows of the board, n the columns held, k is the answer of the placing, xs' and ys' are the first n places after it

pub record Placing (columns net column1 side1 column2 side2 n k : ℕ) (xs ys xs' ys' : List ℕ) : Type 0 where
  pub limit : n ≡ min columns 256
  pub number : k ≡ place_refused (take n xs) (take n ys) 0 net column1 side1 column2 side2
  pub top : xs' ≡ if_accepted k (placed_top (take n xs) net column1 side1 column2 side2) (take n xs)
  pub bottom : ys' ≡ if_accepted k (placed_bottom (take n ys) net column1 side1 column2 side2) (take n ys)

module _ {columns net column1 side1 column2 side2 n k : ℕ} {xs ys xs' ys' : List ℕ}
    (f : Placing columns net column1 side1 column2 side2 n k xs ys xs' ys') where
  -- the answer is the channel's
  add_number : {ks : List ℕ} {ch : Channel} → StandsFor ch (board_with columns xs ys ks) → k ≡ change_refused ch (Add net column1 side1 column2 side2)
  unfolding change_refused
  add_number S =
      f.number ∙ ap₂ (λ (t b : List ℕ). place_refused t b 0 net column1 side1 column2 side2) (top_part f.limit S) (bottom_part f.limit S)

  -- it refuses, and r is the number of the call's answer
  pub add_refused : (r : ℕ) → r ≡ k → k ≢ 0 → (ks : List ℕ)
      → Makes (Add net column1 side1 column2 side2) r (board_with columns xs ys ks) (board_with columns (xs' ++ drop n xs) (ys' ++ drop n ys) ks)
  add_refused r e d ks =
      makes_none _ r (board_with columns xs ys ks) _
      (ap₂ (λ (t b : List ℕ). board_with columns t b ks)
      (ap (λ (l : List ℕ). l ++ drop n xs) (f.top ∙ accepted_old k _ (take n xs) d) ∙ take-append-drop n xs)
      (ap (λ (l : List ℕ). l ++ drop n ys) (f.bottom ∙ accepted_old k _ (take n ys) d) ∙ take-append-drop n ys)) (λ z. d (sym e ∙ z)) (λ ch S. e ∙ add_number S)

  -- it does not
  module _ (none : k ≡ 0) where
    -- the terminals lie within the columns held
    pub add_room : length xs ≡ 256 → length ys ≡ 256 → (last : ℕ) → last ≡ max column1 column2 → last ≤ 256
    add_room a b last l =
        let ok = accepted_by (take n xs) (take n ys) 0 net column1 side1 column2 side2 (sym f.number ∙ none) in
        omega (arith, within column1 side1 ok.first, within column2 side2 ok.second)
      where
        within : (column side : ℕ) → Free (take n xs) (take n ys) 0 column side → column ≤ 256
        within column side free = go (ℕ_discrete side 0)
          where
            go : Dec (side ≡ 0) → column ≤ 256
            go (yes e) = omega (arith, (free.above e).within, part_length columns n xs f.limit a, f.limit)
            go (no d) = omega (arith, (free.below (omega (arith, free.sided))).within, part_length columns n ys f.limit b, f.limit)

    -- the net is added
    pub add_made : (first last : ℕ) → first ≡ min column1 column2 → last ≡ max column1 column2 → (R : ℕ → ℕ → Type 0) → Changes R more → (ks ks' : List ℕ)
        → Mended first last R ks ks' → Makes (Add net column1 side1 column2 side2) 0 (board_with columns xs ys ks) (board_with columns (xs' ++ drop n xs) (ys' ++ drop n ys) ks')
    unfolding change_refused changed
    add_made first last ef el R r ks ks' m =
        makes_it _ (board_with columns xs ys ks) _ (λ ch S.
        let free = sym (add_number S) ∙ none in
        let ok = accepted_by ch.top ch.bottom 0 net column1 side1 column2 side2 free in (
          free,
          other_rows f.limit S (changed ch (Add net column1 side1 column2 side2)) xs' ys' ks'
              (f.top ∙ accepted_new k _ (take n xs) none ∙ ap (λ (t : List ℕ). placed_top t net column1 side1 column2 side2) (top_part f.limit S))
              (f.bottom ∙ accepted_new k _ (take n ys) none ∙ ap (λ (b : List ℕ). placed_bottom b net column1 side1 column2 side2) (bottom_part f.limit S))
              (counts_raised ch net column1 side1 column2 side2 ok first last ef el R r ks ks' (counts_of_lem (board_with columns xs ys ks) ch S.board) m)
              (both_length 0 ch.top net column1 side1 column2 side2) (both_length 1 ch.bottom net column1 side1 column2 side2),
        ))

-- A DROPPED NET

-- 0 or over 256
wrong_number : (net : ℕ) → (net ≡ 0) ⊎ ((net ≢ 0) × (256 < net)) → (eqb net 0 || ltb 256 net) ≡ true
wrong_number net (inl e) = rw (eq-eqb net 0 e) refl
wrong_number net (inr (n, m)) = rw (ne_eqb net 0 n, lt-ltb 256 net m) refl

pub drop_wrong : (columns net : ℕ) (xs ys ks : List ℕ) → (net ≡ 0) ⊎ ((net ≢ 0) × (256 < net))
    → Makes (Drop net) 6 (board_with columns xs ys ks) (board_with columns xs ys ks)
unfolding change_refused drop_refused
drop_wrong columns net xs ys ks h =
    makes_none (Drop net) 6 (board_with columns xs ys ks) (board_with columns xs ys ks) refl (omega arith) (λ ch S. rw (wrong_number net h) refl)

-- the first n places of two arrays are as many
pub parts_same : (columns n : ℕ) (xs ys : List ℕ) → n ≡ min columns 256 → (length xs ≡ 256) × (length ys ≡ 256) → length (take n xs) ≡ length (take n ys)
parts_same columns n xs ys e (a, b) = sym (part_length columns n xs e a) ∙ part_length columns n ys e b

-- one of 1 to 256: xs and ys are the rows of the board, n the columns held, `last` is the net's last column
pub record Dropping (columns net n last : ℕ) (xs ys : List ℕ) : Type 0 where
  pub some : net ≢ 0
  pub most : net ≤ 256
  pub limit : n ≡ min columns 256
  pub sized : (length xs ≡ 256) × (length ys ≡ 256)
  pub ends : last ≡ last_column (take n xs) (take n ys) net

module _ {columns net n last : ℕ} {xs ys : List ℕ} (f : Dropping columns net n last xs ys) where
  -- the last column lies within the columns held
  pub drop_room : last ≤ 256
  drop_room =
      omega (
        arith,
        f.ends,
        last_within (take n xs) (take n ys) net f.some (parts_same columns n xs ys f.limit f.sized),
        part_length columns n xs f.limit f.sized.0,
        f.limit,
      )

  module _ {ks : List ℕ} {ch : Channel} (S : StandsFor ch (board_with columns xs ys ks)) where
    last_there : last ≡ last_column ch.top ch.bottom net
    last_there = f.ends ∙ ap₂ (λ (t b : List ℕ). last_column t b net) (top_part f.limit S) (bottom_part f.limit S)

    -- the number goes by whether there is one
    drop-number : (q : Bool) → eqb last 0 ≡ q → pick q 24 0 ≡ change_refused ch (Drop net)
    unfolding change_refused drop_refused
    drop-number q e =
        rw (
          ne_eqb net 0 f.some,
          le-ltb 256 net f.most,
          sym (last-pins ch.top ch.bottom net f.some S.same) ∙ ap (λ (k : ℕ). eqb k 0) (sym last_there) ∙ e,
        ) refl

  -- there is none
  pub drop_none : last ≡ 0 → (ks : List ℕ) → Makes (Drop net) 24 (board_with columns xs ys ks) (board_with columns xs ys ks)
  drop_none e ks =
      makes_none (Drop net) 24 (board_with columns xs ys ks) (board_with columns xs ys ks) refl (omega arith) (λ ch S. drop-number S true (eq-eqb last 0 e))

  -- there is one, and the net is dropped
  pub drop_made : last ≢ 0 → (first : ℕ) → first ≡ first_column (take n xs) (take n ys) net → (R : ℕ → ℕ → Type 0) → Changes R less → (ks ks' : List ℕ)
      → Mended first last R ks ks'
      → (xs' ys' : List ℕ) → xs' ≡ without_net net (take n xs) → ys' ≡ without_net net (take n ys)
      → Makes (Drop net) 0 (board_with columns xs ys ks) (board_with columns (xs' ++ drop n xs) (ys' ++ drop n ys) ks')
  unfolding changed
  drop_made d first ef R r ks ks' m xs' ys' t b =
      makes_it (Drop net) (board_with columns xs ys ks) _ (λ ch S. (
        sym (drop-number S false (ne_eqb last 0 d)),
        other_rows f.limit S (changed ch (Drop net)) xs' ys' ks' (t ∙ ap (without_net net) (top_part f.limit S))
            (b ∙ ap (without_net net) (bottom_part f.limit S))
            (counts_lowered ch net f.some f.most S.same first last
            (ef ∙ ap₂ (λ (x y : List ℕ). first_column x y net) (top_part f.limit S) (bottom_part f.limit S)) (last_there S) R r ks ks'
            (counts_of_lem (board_with columns xs ys ks) ch S.board) m)
            (without_length net ch.top) (without_length net ch.bottom),
      ))
