-- `Cases::next` meets its promise: the parts that it takes, one after the other, are those of a case.
use Prim.Native.Nat.{ℕ, ◌+◌, ◌*◌, ◌<◌}
use mathlib.Core.Path.{◌≡◌, refl, ap, ap₂, ◌∙◌}
use mathlib.Core.List.{List, ◌++◌}
use native.Mathlib.Omega.{arith}
use lib.ListN.{get_or, take, drop, take-append-drop}
use lib.Seq.{get_or-take, get_or-drop, drop-drop}
use Rattle.words.proofs.CasesIterator.next.Goals as goal

-- of two words, k words on, the one at i
word_there : (k i : ℕ) (words part two : List ℕ) → i < 2 → part ≡ drop k words → two ≡ take 2 part → get_or two i 0 ≡ get_or words (k + i) 0
word_there k i words part two h p e =
    ap (λ (l : List ℕ). get_or l i 0) e ∙ get_or-take 2 part i 0 h ∙ ap (λ (l : List ℕ). get_or l i 0) p ∙ get_or-drop k words i 0

-- the words m further on
further : (k m j : ℕ) (words part rest : List ℕ) → part ≡ drop k words → rest ≡ drop m part → k + m ≡ j → rest ≡ drop j words
further k m j words part rest p r e = r ∙ ap (drop m) p ∙ drop-drop m k words ∙ ap (λ (q : ℕ). drop q words) e

-- two parts are the whole
joined : (words : List ℕ) (k : ℕ) (front back : List ℕ) → front ≡ take k words → back ≡ drop k words → front ++ back ≡ words
joined words k front back f b = ap₂ (λ (l r : List ℕ). l ++ r) f b ∙ take-append-drop k words

pub returns-clause-steps : goal.returns-clause-steps
returns-clause-steps g c =
    let n = g.row.N in
    let words = c.args.self.now.rest.now in
    let first = c.in_ok-top.ensures.cases in
    let head = c.in_ok-head.ensures.cases in
    let long = c.in_ok-low.ensures.cases in
    let top = c.in_ok-top-2.ensures.cases in
    let bottom = c.in_ok-bottom.ensures.cases in
    let layout = c.in_ok-layout.ensures.cases in
    let behind = further 2 n (n + 2) words _ _ first.1 head.1 (omega arith) in
    record {
      above = top.3 ∙ c.from.ensures ∙ word_there 0 0 words words _ (omega arith) refl first.0;
      below = bottom.3 ∙ c.from-2.ensures ∙ word_there 0 1 words words _ (omega arith) refl first.0;
      drawn = layout.3 ∙ c.long.ensures.0 ∙ ap₂ (λ (low high : ℕ). low + 65536 * high)
          (word_there (n + 2) 0 words _ _ (omega arith) behind long.0 ∙ ap (λ (k : ℕ). get_or words k 0) (omega arith))
          (word_there (n + 2) 1 words _ _ (omega arith) behind long.0 ∙ ap (λ (k : ℕ). get_or words k 0) (omega arith));
      given = head.0 ∙ ap (take n) first.1;
      parts =
          ap (λ (l : List ℕ). c.in_ok-top-2.top.now ++ (c.in_ok-bottom.bottom.now ++ l)) (joined _ _ _ _ layout.1 layout.2)
          ∙ ap (λ (l : List ℕ). c.in_ok-top-2.top.now ++ l) (joined _ _ _ _ bottom.1 bottom.2) ∙ joined _ _ _ _ top.1 top.2
          ∙ further (n + 2) 2 (n + 4) words _ _ behind long.1 (omega arith);
    }
