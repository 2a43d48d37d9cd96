-- One hook: it ties the edges of a net that meet, and keeps to what is linked. Nothing is said of a grid.
use Prim.Native.Nat.{ℕ}
use mathlib.Core.Path.{◌≡◌, refl, sym, ◌∙◌, ap, subst, fun_ext}
use mathlib.Core.Logic.{◌≢◌, by_cases}
use mathlib.Core.List.{List, [], ◌∷◌}
use native.Mathlib.Decide.{ℕ_discrete}
use Rattle.grid.proofs.Tests.{eq-eqb, ne_eqb}
use Rattle.pieces.specs.Labels.{sub, choose, target, hook}

-- a itself becomes b
pub sub_hit : (a b l : ℕ) → l ≡ a → sub a b l ≡ b
unfolding sub
sub_hit a b l e = rw (eq-eqb l a e)

-- any other stays
pub sub_miss : (a b l : ℕ) → l ≢ a → sub a b l ≡ l
unfolding sub
sub_miss a b l e = rw (ne_eqb l a e)

-- b stays
pub sub_new : (a b : ℕ) → sub a b b ≡ b
sub_new a b = by_cases (ℕ_discrete b a) (λ e. sub_hit a b b e) (λ e. sub_miss a b b e)

-- a for itself changes nothing
pub sub_self : (a l : ℕ) → sub a a l ≡ l
sub_self a l = by_cases (ℕ_discrete l a) (λ e. sub_hit a a l e ∙ sym e) (λ e. sub_miss a a l e)

-- p is one of a list
pub data In (p : ℕ) : List ℕ → Type 0 where
  head : {q : ℕ} {cs : List ℕ} → p ≡ q → In p (q ∷ cs)
  later : {q : ℕ} {cs : List ℕ} → In p cs → In p (q ∷ cs)

-- edges of one net among cs have one label
pub record Tied (net f : ℕ → ℕ) (cs : List ℕ) : Type 0 where
  pub tied : (p q : ℕ) → In p cs → In q cs → net p ≡ net q → net p ≢ 0 → f p ≡ f q

-- the same as an equation
pub hook_is : (net f : ℕ → ℕ) (cs : List ℕ) (e p : ℕ) → hook net f cs e p ≡ sub (f e) (target net f cs e) (f p)
unfolding hook
hook_is net f cs e p = refl

-- where a target comes from
pub data Target (net f : ℕ → ℕ) (cs : List ℕ) (e : ℕ) : ℕ → Type 0 where
  own : {b : ℕ} → b ≡ f e → Target net f cs e b
  from : {b : ℕ} (q : ℕ) → In q cs → net e ≡ net q → net e ≢ 0 → b ≡ f q → Target net f cs e b

-- of an edge that is there
choose_is : (net f : ℕ → ℕ) (e : ℕ) (cs : List ℕ) → net e ≢ 0 → Target net f cs e (choose net f (net e) cs (f e))
unfolding choose
choose_is net f e [] n = own refl
choose_is net f e (q ∷ cs) n = go (choose_is net f e cs n) (ℕ_discrete (net e) (net q))
  where
    more : {b : ℕ} → Target net f cs e b → Target net f (q ∷ cs) e b
    more (own x) = own x
    more (from i k m o x) = from i (later k) m o x

    go : Target net f cs e (choose net f (net e) cs (f e)) → Dec (net e ≡ net q) → Target net f (q ∷ cs) e (choose net f (net e) (q ∷ cs) (f e))
    go r (yes x) = rw (eq-eqb (net e) (net q) x) (from q (head refl) x n refl)
    go r (no x) = rw (ne_eqb (net e) (net q) x) (more r)

-- of any edge
pub target_is : (net f : ℕ → ℕ) (cs : List ℕ) (e : ℕ) → Target net f cs e (target net f cs e)
unfolding target
target_is net f cs e = go (ℕ_discrete (net e) 0)
  where
    go : Dec (net e ≡ 0) → Target net f cs e (target net f cs e)
    go (yes x) = rw (eq-eqb (net e) 0 x) (own refl)
    go (no x) = rw (ne_eqb (net e) 0 x) (choose_is net f e cs x)

-- fewer edges are tied too
tail : {net f : ℕ → ℕ} {q : ℕ} {cs : List ℕ} → Tied net f (q ∷ cs) → Tied net f cs
tail t = record { tied = λ p q i j. t.tied p q (later i) (later j) }

-- among tied edges each one of the net has the label chosen
choose_at :
    (net f : ℕ → ℕ) (cs : List ℕ) (N z q : ℕ) → Tied net f cs → In q cs → N ≡ net q → N ≢ 0 → choose net f N cs z ≡ f q
unfolding choose
choose_at net f [] N z q t i m o = elim i [ ]
choose_at net f (c ∷ cs) N z q t (head x) m o = rw (eq-eqb N (net c) (m ∙ ap net x)) (ap f (sym x))
choose_at net f (c ∷ cs) N z q t (later i) m o = go (choose_at net f cs N z q (tail t) i m o) (ℕ_discrete N (net c))
  where
    go : choose net f N cs z ≡ f q → Dec (N ≡ net c) → choose net f N (c ∷ cs) z ≡ f q
    go r (yes x) = rw (eq-eqb N (net c) x) (t.tied c q (head refl) (later i) (sym x ∙ m) (λ y. o (x ∙ y)))
    go r (no x) = rw (ne_eqb N (net c) x) r

-- and so the target
target_at :
    (net f : ℕ → ℕ) (cs : List ℕ) (e q : ℕ) → Tied net f cs → In q cs → net e ≡ net q → net e ≢ 0 → target net f cs e ≡ f q
unfolding target
target_at net f cs e q t i m o = rw (ne_eqb (net e) 0 o) (choose_at net f cs (net e) (f e) q t i m o)

-- a hook keeps edges tied
pub tied_kept : {net f : ℕ → ℕ} {xs : List ℕ} (cs : List ℕ) (e : ℕ) → Tied net f xs → Tied net (hook net f cs e) xs
tied_kept {net} {f} cs e t = record {
  tied = λ p q i j m o.
      hook_is net f cs e p ∙ ap (sub (f e) (target net f cs e)) (t.tied p q i j m o) ∙ sym (hook_is net f cs e q);
}

-- and ties one edge more
pub tied_hook : {net f : ℕ → ℕ} {cs : List ℕ} (e : ℕ) → Tied net f cs → Tied net (hook net f cs e) (e ∷ cs)
tied_hook {net} {f} {cs} e t = record { tied = go }
  where
    at_e : hook net f cs e e ≡ target net f cs e
    at_e = hook_is net f cs e e ∙ sub_hit (f e) (target net f cs e) (f e) refl

    one : (q : ℕ) → In q cs → net e ≡ net q → net e ≢ 0 → hook net f cs e e ≡ hook net f cs e q
    one q i m o =
        at_e
        ∙ sym (hook_is net f cs e q ∙ ap (sub (f e) (target net f cs e)) (sym (target_at net f cs e q t i m o)) ∙ sub_new (f e) (target net f cs e))

    go : (p q : ℕ) → In p (e ∷ cs) → In q (e ∷ cs) → net p ≡ net q → net p ≢ 0 → hook net f cs e p ≡ hook net f cs e q
    go p q (head x) (head y) m o = ap (hook net f cs e) (x ∙ sym y)
    go p q (head x) (later j) m o = ap (hook net f cs e) x ∙ one q j (sym (ap net x) ∙ m) (λ y. o (ap net x ∙ y))
    go p q (later i) (head y) m o = sym (ap (hook net f cs e) y ∙ one p i (sym (ap net y) ∙ sym m) (λ z. o (m ∙ ap net y ∙ z)))
    go p q (later i) (later j) m o = (tied_kept cs e t).tied p q i j m o

-- what is linked in a net
pub record Links (L : ℕ → ℕ → ℕ → Type 0) : Type 0 where
  pub self : (N p : ℕ) → L N p p
  pub back : (N p q : ℕ) → L N p q → L N q p
  pub join : (N p q r : ℕ) → L N p q → L N q r → L N p r

-- labellings that keep to it: a label is an edge of the same net that bears its own number and is linked
pub record Faithful (net : ℕ → ℕ) (L : ℕ → ℕ → ℕ → Type 0) (f : ℕ → ℕ) : Type 0 where
  pub idem : (p : ℕ) → f (f p) ≡ f p
  pub keep : (p : ℕ) → net (f p) ≡ net p
  pub reach : (p : ℕ) → L (net p) p (f p)

module _ (net : ℕ → ℕ) (L : ℕ → ℕ → ℕ → Type 0) (E : Links L) where
  -- each edge its own label
  pub faithful_start : Faithful net L (λ p. p)
  faithful_start = record { idem = λ p. refl; keep = λ p. refl; reach = λ p. E.self (net p) p }

  -- the label of j for that of i, where the two are linked
  faithful_meld : (f : ℕ → ℕ) (i j : ℕ) → Faithful net L f → net i ≡ net j → L (net i) i j → Faithful net L (λ p. sub (f i) (f j) (f p))
  faithful_meld f i j g m l = record {
    idem = λ p. by_cases (ℕ_discrete (f p) (f i)) (idem₁ p) (idem₂ p);
    keep = λ p. by_cases (ℕ_discrete (f p) (f i)) (keep₁ p) (keep₂ p);
    reach = λ p. by_cases (ℕ_discrete (f p) (f i)) (reach₁ p) (reach₂ p);
  }
    where
      idem₁ : (p : ℕ) → f p ≡ f i → sub (f i) (f j) (f (sub (f i) (f j) (f p))) ≡ sub (f i) (f j) (f p)
      idem₁ p e = rw (sub_hit (f i) (f j) (f p) e) (ap (sub (f i) (f j)) (g.idem j) ∙ sub_new (f i) (f j))

      idem₂ : (p : ℕ) → f p ≢ f i → sub (f i) (f j) (f (sub (f i) (f j) (f p))) ≡ sub (f i) (f j) (f p)
      idem₂ p e = rw (sub_miss (f i) (f j) (f p) e) (ap (sub (f i) (f j)) (g.idem p) ∙ sub_miss (f i) (f j) (f p) e)

      nets : (p : ℕ) → f p ≡ f i → net i ≡ net p
      nets p e = sym (g.keep i) ∙ ap net (sym e) ∙ g.keep p

      keep₁ : (p : ℕ) → f p ≡ f i → net (sub (f i) (f j) (f p)) ≡ net p
      keep₁ p e = rw (sub_hit (f i) (f j) (f p) e) (g.keep j ∙ sym m ∙ nets p e)

      keep₂ : (p : ℕ) → f p ≢ f i → net (sub (f i) (f j) (f p)) ≡ net p
      keep₂ p e = rw (sub_miss (f i) (f j) (f p) e) (g.keep p)

      reach₁ : (p : ℕ) → f p ≡ f i → L (net p) p (sub (f i) (f j) (f p))
      reach₁ p e =
          rw (sub_hit (f i) (f j) (f p) e)
          (E.join (net p) p (f i) (f j) (subst (λ (k : ℕ). L (net p) p k) e (g.reach p))
          (subst (λ (N : ℕ). L N (f i) (f j)) (nets p e)
          (E.join (net i) (f i) i (f j) (E.back (net i) i (f i) (g.reach i))
          (E.join (net i) i j (f j) l (subst (λ (N : ℕ). L N j (f j)) (sym m) (g.reach j))))))

      reach₂ : (p : ℕ) → f p ≢ f i → L (net p) p (sub (f i) (f j) (f p))
      reach₂ p e = rw (sub_miss (f i) (f j) (f p) e) (g.reach p)

  -- a hook to edges that are linked keeps to the links
  pub faithful_hook :
      (f : ℕ → ℕ) (cs : List ℕ) (e : ℕ)
      → Faithful net L f → ((q : ℕ) → In q cs → net e ≡ net q → net e ≢ 0 → L (net e) e q) → Faithful net L (hook net f cs e)
  faithful_hook f cs e g near = subst (Faithful net L) (sym (fun_ext (hook_is net f cs e))) (go (target_is net f cs e))
    where
      go : {b : ℕ} → Target net f cs e b → Faithful net L (λ p. sub (f e) b (f p))
      go (own x) = rw x (subst (Faithful net L) (sym (fun_ext (λ p. sub_self (f e) (f p)))) g)
      go (from q i m o x) = rw x (faithful_meld f e q g m (near q i m o))
