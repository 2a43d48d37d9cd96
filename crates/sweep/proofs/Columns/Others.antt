-- The nets that an action does not name keep their strands.
use Prim.Native.Nat.{ℕ, zero, suc, ◌<◌}
use mathlib.Core.Path.{◌≡◌, refl, ap, sym, ◌∙◌}
use mathlib.Core.List.{List}
use native.Mathlib.Omega.{arith}
use lib.ListN.{length}
use Rattle.sweep.specs.declared.Action.{Action}
use Rattle.sweep.specs.Tracks.{strands, many, clear, give, after}
use Rattle.sweep.specs.Working.{FreeAt, Applies, Named, nobody, top_net, bottom_net, ended_net, Plain}
use Rattle.sweep.proofs.Tracks.Changed.{cleared_other, given_other}

-- a track given to another net
give-strands : (y v u : ℕ) (tr : List ℕ) → 0 < u → (u ≡ v → ⊥) → FreeAt y tr → strands u (give y v tr) ≡ strands u tr
unfolding give strands
give-strands zero v u tr h n o = refl
give-strands (suc y) v u tr h n o = given_other 1 u v tr y h n o.1

-- strands of another net ended
clear-strands : (v u : ℕ) (tr : List ℕ) → 0 < u → (u ≡ v → ⊥) → strands u (clear v tr) ≡ strands u tr
unfolding strands
clear-strands v u tr h n = cleared_other 1 u v tr h n

-- a net that is none of the three
not_named : {P Q e v u : ℕ} → Named P Q e v → 0 < u → (u ≡ e → ⊥) → (u ≡ P → ⊥) → (u ≡ Q → ⊥) → u ≡ v → ⊥
not_named (nobody d) h n m k q = omega arith
not_named (top_net d) h n m k q = m (q ∙ sym d)
not_named (bottom_net d) h n m k q = k (q ∙ sym d)
not_named (ended_net d) h n m k q = n (q ∙ d)

-- other nets keep their strands
pub others_stay : (x : Action) (P Q u : ℕ) (tr : List ℕ) → Applies x tr → Plain P Q x → 0 < u → (u ≡ x.ended → ⊥) → (u ≡ P → ⊥) → (u ≡ Q → ⊥)
    → many u (after x tr) ≡ many u tr
unfolding many after
others_stay x P Q u tr p g h n m k =
    ap length
    (give-strands x.gift3.track x.gift3.net u _ h (not_named g.net3 h n m k) p.free3
    ∙ give-strands x.gift2.track x.gift2.net u _ h (not_named g.net2 h n m k) p.free2
    ∙ give-strands x.gift1.track x.gift1.net u _ h (not_named g.net1 h n m k) p.free1
    ∙ clear-strands x.closed u _ h (not_named g.closed h n m k)
    ∙ clear-strands x.ended u tr h n)
