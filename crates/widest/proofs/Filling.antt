-- What the code writes into a row. Assumes nothing.
use Prim.Native.Nat.{ℕ, ◌+◌, ◌*◌, ◌<◌}
use mathlib.Core.Path.{◌≡◌, sym, ap, ap₂, ◌∙◌}
use mathlib.Core.List.{List, [], ◌∷◌, ◌++◌}
use native.Mathlib.Numerals.{add-one}
use lib.ListN.{length, set, take}
use lib.Seq.{take-suc-set}
use Rattle.widest.specs.Widest.{by_two}

-- counting by two, one number more
pub by_two_more : (first i v : ℕ) (s : List ℕ) → i < length s → v ≡ first + 2 * i → take i s ≡ by_two first i
    → take (i + 1) (set s i v) ≡ by_two first (i + 1)
unfolding by_two
by_two_more first i v s p e f =
    ap (λ (k : ℕ). take k (set s i v)) (add-one i)
    ∙ take-suc-set s i v p
    ∙ ap₂ (λ (l : List ℕ) (w : ℕ). l ++ w ∷ []) f e
    ∙ ap (by_two first) (sym (add-one i))
