-- `words::decode` meets its contract: the words up to k are stored.
use Prim.Native.Nat.{ℕ, ◌+◌, ◌*◌, ◌<◌}
use mathlib.Core.Path.{◌≡◌, refl, ◌∙◌}
use mathlib.Core.List.{List}
use lib.ListN.{length, take, set}
use lib.Seq.{take-suc-set}
use native.Mathlib.Numerals.{add-one}
use native.Mathlib.Omega.{arith}
use Rattle.words.specs.Words.{word_at, words_to}
use Rattle.words.proofs.decode.Goals as goal

-- a word stored at k, after the words up to k
one_more : (bytes words : List ℕ) (k v : ℕ) → k < length words → take k words ≡ words_to bytes k → v ≡ word_at bytes (2 * k)
    → take (k + 1) (set words k v) ≡ words_to bytes (k + 1)
unfolding words_to
one_more bytes words k v room held is = rw add-one (take-suc-set words k v room ∙ cc)

pub loop-k-init : goal.loop-k-init
unfolding words_to
loop-k-init c = refl

pub loop-k-preserved : goal.loop-k-preserved
loop-k-preserved c =
    let l = c.loop-k in
    one_more c.args.bytes.now l.words l.k _ (omega (arith, c.min-n.ensures)) l.invariant (omega (arith, c.from_le_bytes.ensures))
