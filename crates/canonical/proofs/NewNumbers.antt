-- The new numbers: 1 to 256 for nets, one-to-one, 0 for no pin. Assumes nothing.
use Prim.Native.Nat.{ℕ, ◌≤◌}
use mathlib.Core.Path.{◌≡◌, refl, sym, ap, ◌∙◌}
use mathlib.Core.Logic.{inl, inr, ◌≢◌}
use mathlib.Core.List.{List, ◌∷◌}
use native.Mathlib.Omega.{arith}
use lib.ListN.{length, get_or}
use Rattle.grid.proofs.Rows.{RowsFit}
use Rattle.canonical.specs.Renaming.{net_list, new_number, new_top, new_bottom, IsNet, Renames}
use Rattle.canonical.proofs.Ranks.{rank_le, rank_at}
use Rattle.canonical.proofs.Order.{Terminal, nets_none, net_ranked, nets_few}

module _ (top bottom : List ℕ) (fit : RowsFit top bottom) where
  -- no pin stays no pin
  pub number_none : new_number top bottom 0 ≡ 0
  unfolding new_number net_list
  number_none = nets_none top bottom (length top)

  -- a net has a number
  pub number_net : (v : ℕ) → IsNet top bottom v → new_number top bottom v ≢ 0
  unfolding new_number
  number_net v net = net_ranked top bottom fit v net

  -- of at most 256
  pub number_le : (v : ℕ) → new_number top bottom v ≤ 256
  unfolding new_number
  number_le v = omega (arith, rank_le v (net_list top bottom), nets_few top bottom fit)

  -- the net that has a number, and 0 for 0
  abbrev pub net_numbered : ℕ → ℕ
  net_numbered k = get_or (0 ∷ net_list top bottom) k 0

  pub net_numbered_lem : (v : ℕ) → Terminal top bottom fit v → net_numbered (new_number top bottom v) ≡ v
  unfolding new_number
  net_numbered_lem v (inl e) = ap net_numbered (ap (new_number top bottom) e ∙ number_none) ∙ sym e
  net_numbered_lem v (inr net) = rank_at v (net_list top bottom) (net_ranked top bottom fit v net)

  -- two of a channel's numbers never become one
  pub number_one : (u v : ℕ) → Terminal top bottom fit u → Terminal top bottom fit v → new_number top bottom u ≡ new_number top bottom v → u ≡ v
  number_one u v p q e = sym (net_numbered_lem u p) ∙ ap net_numbered e ∙ net_numbered_lem v q

  -- so the new numbers are a renaming
  pub number_renames : Renames (new_number top bottom) top bottom (new_top top bottom) (new_bottom top bottom)
  number_renames =
      record {
        none = number_none;
        net = number_net;
        one = λ u v p q e. number_one u v (inr p) (inr q) e;
        tops = refl;
        bottoms = refl;
      }
