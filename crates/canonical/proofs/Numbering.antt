-- The pass over the rows that numbers the nets. Assumes nothing.
use Prim.Native.Nat.{ℕ, zero, suc, ◌+◌, ◌≤◌, ◌<◌}
use mathlib.Core.Path.{◌≡◌, refl, sym, ap, ap₂, ◌∙◌, subst}
use mathlib.Core.Logic.{◌≢◌}
use mathlib.Core.Bool.{Bool, true, false}
use mathlib.Core.List.{List, [], ◌∷◌, ◌++◌}
use native.Mathlib.Omega.{arith}
use native.Mathlib.Numerals.{add-one}
use native.Mathlib.Decide.{ℕ_discrete}
use lib.Dec.{eqb}
use lib.ListN.{length, get_or, set, length-set, length-append}
use lib.Seq.{get_or-set_same, get_or-set_other, set-get_or}
use Rattle.grid.specs.Channel.{pick}
use Rattle.grid.specs.Nets.{table, zero_table}
use Rattle.grid.specs.Working.{Rows}
use Rattle.grid.proofs.Scanning.{none_over}
use Rattle.grid.proofs.Tests.{Same, same, diff, same_by}
use Rattle.grid.proofs.Tables.{zero_table-length, table_none, at_net, cleared}
use Rattle.grid.proofs.Counting.{zeros}
use Rattle.canonical.specs.Renaming.{rank, with_net, nets_to, net_list, new_number}
use Rattle.canonical.specs.Working.{Ranked}
use Rattle.canonical.proofs.Ranks.{rank_old, rank_new, WithNet, empty, known, new, with_net_by, with_net-length}
use Rattle.canonical.proofs.Order.{nets_none, nets_length}

module _ (l : List ℕ) (given : ℕ) (numbers : List ℕ) (h : Ranked l given numbers) (net : ℕ) (small : net ≤ 256) where
  module _ (n : net ≢ 0) where
    -- the number that it has
    old : get_or numbers net 0 ≡ rank net l
    old = h.ranks.at net (omega arith) small

    module _ (b : rank net l ≡ 0) where
      -- the table with one number more
      new_at : (v : ℕ) → 1 ≤ v → v ≤ 256 → get_or (set numbers net (given + 1)) v 0 ≡ rank v (l ++ (net ∷ []))
      new_at v a s = go (ℕ_discrete (rank v l) 0)
        where
          last : (q : Bool) → Same net v q → rank v l ≡ 0 → get_or (set numbers net (given + 1)) v 0 ≡ pick q (suc (length l)) 0
          last true (same e) z =
              ap (λ w. get_or (set numbers net (given + 1)) w 0) (sym e) ∙ get_or-set_same numbers net (given + 1) 0 (omega (arith, h.ranks.size)) ∙ omega (arith, h.count)
          last false (diff d) z = get_or-set_other numbers net v (given + 1) 0 (λ e. d (sym e)) ∙ h.ranks.at v a s ∙ z

          go : Dec (rank v l ≡ 0) → get_or (set numbers net (given + 1)) v 0 ≡ rank v (l ++ (net ∷ []))
          go (yes z) = last (eqb net v) (same_by net v) z ∙ sym (rank_new v net l z)
          go (no d) =
              get_or-set_other numbers net v (given + 1) 0 (λ e. d (ap (λ w. rank w l) e ∙ b)) ∙ h.ranks.at v a s ∙ sym (rank_old v l (net ∷ []) d)

      -- a net that has none
      added : Ranked (l ++ (net ∷ [])) (given + 1) (set numbers net (given + 1))
      added =
          record {
            ranks = record { size = length-set numbers net (given + 1) ∙ h.ranks.size; at = new_at };
            count = omega (arith, h.count, length-append l (net ∷ []));
            none = get_or-set_other numbers net 0 (given + 1) 0 (λ z. n (sym z)) ∙ h.none;
          }

  -- a pin whose net has a number, or that is no pin
  pub pin_known : get_or numbers net 0 ≢ 0 → Ranked (with_net l net) given numbers
  pin_known a = go (with_net l net) (with_net_by l net)
    where
      go : (m : List ℕ) → WithNet l net m → Ranked m given numbers
      go m (empty e) = h
      go m (known d b) = h
      go m (new d b) = absurd (a (old d ∙ b))

  -- its number stored once more
  pub pin_kept : get_or numbers net 0 ≢ 0 → Ranked (with_net l net) given (set numbers net (get_or numbers net 0))
  pin_kept a = subst (λ t. Ranked (with_net l net) given t) (sym (set-get_or numbers net 0)) (pin_known a)

  -- a pin whose net has none
  pub pin_new : get_or numbers net 0 ≡ 0 → Ranked (with_net l net) (given + 1) (set numbers net (given + 1))
  pin_new a = go (with_net l net) (with_net_by l net)
    where
      go : (m : List ℕ) → WithNet l net m → Ranked m (given + 1) (set numbers net (given + 1))
      go m (empty e) = let y = ap (λ w. get_or numbers w 0) e in absurd (omega (arith, h.none))
      go m (known d b) = absurd (b (sym (old d) ∙ a))
      go m (new d b) = added d b

-- the two pins of a column are at most 256
pub column_small : (top bottom : List ℕ) → Rows top bottom → (i : ℕ) → (get_or top i 0 ≤ 256) × (get_or bottom i 0 ≤ 256)
column_small top bottom rows i = (none_over top i rows.above, none_over bottom i rows.below)

module _ (top bottom : List ℕ) where
  -- before the first column
  pub numbered_none : (numbers : List ℕ) → numbers ≡ zero_table → Ranked (nets_to top bottom 0) 0 (set numbers 0 1)
  unfolding nets_to rank zero_table
  numbered_none numbers e =
      record {
        ranks =
            record {
              size = length-set numbers 0 1 ∙ zero_table-length numbers e;
              at = λ v a b. get_or-set_other numbers 0 v 1 0 (λ z. let x : ⊥ = omega arith in x) ∙ ap (λ t. get_or t v 0) e ∙ zeros 257 v;
            };
        count = refl;
        none = get_or-set_same numbers 0 1 0 (omega (arith, zero_table-length numbers e));
      }

  -- one column more
  pub numbered_more : (i j p q g : ℕ) (numbers : List ℕ) → j ≡ i + 1 → p ≡ get_or top i 0 → q ≡ get_or bottom i 0
      → Ranked (with_net (with_net (nets_to top bottom i) p) q) g numbers → Ranked (nets_to top bottom j) g numbers
  unfolding nets_to
  numbered_more i j p q g numbers n e f h =
      subst (λ l. Ranked l g numbers)
      (ap₂ (λ x y. with_net (with_net (nets_to top bottom i) x) y) e f ∙ sym (ap (nets_to top bottom) (add-one i)) ∙ sym (ap (nets_to top bottom) n)) h

  -- how many numbers are given
  pub given_few : (i g : ℕ) (numbers : List ℕ) → i < 256 → Ranked (nets_to top bottom i) g numbers → g ≤ 510
  given_few i g numbers s h = omega (arith, h.count, nets_length top bottom i)

  pub given_next : (i p g : ℕ) (numbers : List ℕ) → i < 256 → Ranked (with_net (nets_to top bottom i) p) g numbers → g ≤ 511
  given_next i p g numbers s h = omega (arith, h.count, with_net-length (nets_to top bottom i) p, nets_length top bottom i)

  -- all columns, and no number for 0
  pub numbered_all : (i g : ℕ) (numbers : List ℕ) → i ≡ length top → Ranked (nets_to top bottom i) g numbers
      → set numbers 0 0 ≡ table (new_number top bottom)
  unfolding new_number net_list
  numbered_all i g numbers e h =
      cleared (new_number top bottom) numbers (record { size = h.ranks.size; at = λ v p q. h.ranks.at v p q ∙ ap (λ k. rank v (nets_to top bottom k)) e })

-- the table by a net of at most 256, or 0
pub number_at : (top bottom numbers : List ℕ) → numbers ≡ table (new_number top bottom) → (v : ℕ) → v ≤ 256 → get_or numbers v 0 ≡ new_number top bottom v
unfolding new_number net_list
number_at top bottom numbers e zero s = ap (λ t. get_or t 0 0) e ∙ table_none (new_number top bottom) ∙ sym (nets_none top bottom (length top))
number_at top bottom numbers e (suc v) s = at_net (new_number top bottom) numbers e (suc v) (omega arith) s
