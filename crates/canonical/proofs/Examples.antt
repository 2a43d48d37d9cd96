-- Spellings of two of the document's channels, computed. Assumes nothing.
use mathlib.Core.Path.{◌≡◌, refl}
use mathlib.Core.List.{[], ◌∷◌}
use Rattle.record.specs.Record.{words, record_of}
use Rattle.record.proofs.Examples.{case_d}
use Rattle.canonical.specs.Renaming.{rank, with_net, nets_to, net_list, new_number}
use Rattle.canonical.specs.Canonical.{canonical}

-- case A has no columns
pub case_A : canonical [] [] ≡ 4 ∷ 0 ∷ 1 ∷ 0 ∷ 0 ∷ 0 ∷ []
unfolding canonical record_of words
case_A = refl

-- case D is spelled as the document writes it
pub case_D : canonical (1 ∷ 2 ∷ []) (2 ∷ 1 ∷ []) ≡ case_d
unfolding canonical record_of words new_number net_list nets_to with_net rank
case_D = refl
