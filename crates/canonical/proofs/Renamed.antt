-- A channel and a renamed one: the same new numbers, the same pins, and accepted where its numbers are at most 256. Assumes nothing.
use Prim.Native.Nat.{ℕ, suc, ◌+◌, ◌≤◌, ◌<◌}
use mathlib.Core.Path.{◌≡◌, refl, sym, ap, ap₂, ◌∙◌}
use mathlib.Core.Logic.{inl, inr, ◌≢◌}
use mathlib.Core.List.{List, [], ◌∷◌, map, map-map}
use native.Mathlib.Omega.{arith}
use native.Mathlib.Decide.{ℕ_discrete}
use lib.ListN.{length, get_or, length-map}
use Rattle.grid.specs.Channel.{pins, rows_refused}
use Rattle.grid.proofs.Rows.{RowsFit, HasPin}
use Rattle.grid.proofs.Taken.{fit_accepted}
use Rattle.canonical.specs.Renaming.{rank, nets_to, net_list, new_number, new_top, new_bottom, IsNet, Renames}
use Rattle.canonical.proofs.Ranks.{rank-map, times-map}
use Rattle.canonical.proofs.Order.{Terminal, top_terminal, bottom_terminal, pin_at_lem, nets_all, nets_map, renamed_at}

-- maps that agree on a row
pub map_same : (f g : ℕ → ℕ) (l : List ℕ) → ((i : ℕ) → f (get_or l i 0) ≡ g (get_or l i 0)) → map f l ≡ map g l
map_same f g [] h = refl
map_same f g (x ∷ xs) h = ap₂ (λ a b. a ∷ b) (h 0) (map_same f g xs (λ i. h (suc i)))

module _ (top bottom : List ℕ) (fit : RowsFit top bottom) (f : ℕ → ℕ) where
  -- one-to-one on the numbers of the terminals
  pub one_to_one : {top' bottom' : List ℕ} → Renames f top bottom top' bottom' → (u v : ℕ) → Terminal top bottom fit u → Terminal top bottom fit v → f u ≡ f v → u ≡ v
  one_to_one r u v (inl a) (inl b) e = a ∙ sym b
  one_to_one r u v (inl a) (inr b) e = absurd (r.net v b (sym e ∙ ap f a ∙ r.none))
  one_to_one r u v (inr a) (inl b) e = absurd (r.net u a (e ∙ ap f b ∙ r.none))
  one_to_one r u v (inr a) (inr b) e = r.one u v a b e

module _ (top bottom : List ℕ) (fit : RowsFit top bottom) (f : ℕ → ℕ) (r : Renames f top bottom (map f top) (map f bottom)) where
  one : (u v : ℕ) → Terminal top bottom fit u → Terminal top bottom fit v → f u ≡ f v → u ≡ v
  one = one_to_one top bottom fit f r

  -- the nets, renamed, in the same order
  same_nets : net_list (map f top) (map f bottom) ≡ map f (net_list top bottom)
  unfolding net_list
  same_nets =
      ap (nets_to (map f top) (map f bottom)) (length-map top f)
      ∙ nets_map top bottom f (Terminal top bottom fit) r.none one (inl refl) (top_terminal top bottom fit) (bottom_terminal top bottom fit) (length top)

  -- a renamed net has the number that it had
  pub same_number : (v : ℕ) → Terminal top bottom fit v → new_number (map f top) (map f bottom) (f v) ≡ new_number top bottom v
  unfolding new_number net_list
  same_number v t =
      ap (rank (f v)) same_nets
      ∙ rank-map f v (net_list top bottom)
      (λ i. one _ _ (nets_all top bottom (Terminal top bottom fit) (inl refl) (top_terminal top bottom fit) (bottom_terminal top bottom fit) (length top) i) t)

  -- so the renamed rows are the same
  same_row : (l : List ℕ) → ((i : ℕ) → Terminal top bottom fit (get_or l i 0)) → map (new_number (map f top) (map f bottom)) (map f l) ≡ map (new_number top bottom) l
  same_row l t =
      map-map (new_number (map f top) (map f bottom)) f l
      ∙ map_same (λ v. new_number (map f top) (map f bottom) (f v)) (new_number top bottom) l (λ i. same_number (get_or l i 0) (t i))

  pub same_top : new_top (map f top) (map f bottom) ≡ new_top top bottom
  same_top = same_row top (top_terminal top bottom fit)

  pub same_bottom : new_bottom (map f top) (map f bottom) ≡ new_bottom top bottom
  same_bottom = same_row bottom (bottom_terminal top bottom fit)

  -- a renamed net has the pins that it had
  pub same_pins : (v : ℕ) → Terminal top bottom fit v → pins (map f top) (map f bottom) (f v) ≡ pins top bottom v
  unfolding pins
  same_pins v t =
      ap₂ ◌+◌ (times-map f v top (λ i. one _ _ (top_terminal top bottom fit i) t)) (times-map f v bottom (λ i. one _ _ (bottom_terminal top bottom fit i) t))

  -- a number that is not 0 and has a pin after the renaming is that of a renamed net
  came_from : (w : ℕ) → w ≢ 0 → 0 < pins (map f top) (map f bottom) w → (v : ℕ) × IsNet top bottom v × (f v ≡ w)
  came_from w n p = let (i, l, t) = pin_at_lem (map f top) (map f bottom) (length-map top f ∙ fit.same ∙ sym (length-map bottom f)) w p in go i t
    where
      net : (v : ℕ) → Terminal top bottom fit v → f v ≡ w → (u : ℕ) × IsNet top bottom u × (f u ≡ w)
      net v (inl a) e = absurd (n (sym e ∙ ap f a ∙ r.none))
      net v (inr a) e = (v, a, e)

      go : (i : ℕ) → HasPin (map f top) (map f bottom) w i → (v : ℕ) × IsNet top bottom v × (f v ≡ w)
      go i (inl e) = net (get_or top i 0) (top_terminal top bottom fit i) (sym (renamed_at f r.none top i) ∙ e)
      go i (inr e) = net (get_or bottom i 0) (bottom_terminal top bottom fit i) (sym (renamed_at f r.none bottom i) ∙ e)

  -- no net has one pin
  lone : (w : ℕ) → w ≢ 0 → pins (map f top) (map f bottom) w ≢ 1
  lone w n e =
      let (v, net, m) = came_from w n (omega arith) in
      fit.lone v (positive v net.number) (sym (same_pins v (inr net)) ∙ ap (pins (map f top) (map f bottom)) m ∙ e)
    where
      positive : (v : ℕ) → v ≢ 0 → 1 ≤ v
      positive v h = omega arith

  -- the renamed channel is accepted where its numbers are at most 256
  pub renamed_accepted : length top ≤ 256 → ((v : ℕ) → f v ≤ 256) → rows_refused (map f top) (map f bottom) 256 ≡ 0
  renamed_accepted short small =
      fit_accepted (map f top) (map f bottom)
      (record { same = length-map top f ∙ fit.same ∙ sym (length-map bottom f); small = none_over; lone = λ w p. lone w (omega arith) })
      (omega (arith, length-map top f))
    where
      none_over : (w : ℕ) → 256 < w → pins (map f top) (map f bottom) w ≡ 0
      none_over w p = go (ℕ_discrete (pins (map f top) (map f bottom) w) 0)
        where
          go : Dec (pins (map f top) (map f bottom) w ≡ 0) → pins (map f top) (map f bottom) w ≡ 0
          go (yes e) = e
          go (no e) = let (v, net, m) = came_from w (omega arith) (omega arith) in absurd (omega (arith, small v, m))
