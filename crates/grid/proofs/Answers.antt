-- The row check's answer in each of its cases, and what an answer says of the rows. Assumes nothing.
use Prim.Native.Nat.{ℕ, zero, suc, ◌≤◌, ◌<◌, min}
use mathlib.Core.Path.{◌≡◌, refl, sym, ap, ap₂, ◌∙◌}
use mathlib.Core.Bool.{Bool, true, false, not, ◌||◌}
use mathlib.Core.Logic.{◌≢◌}
use mathlib.Core.List.{List}
use native.Mathlib.Omega.{arith}
use Rattle.std.proofs.Common.{rules}
use lib.Dec.{eqb, ltb}
use lib.ListN.{length}
use Rattle.std.specs.Prelude.{Result, Ok, Err}
use Rattle.grid.specs.declared.refusals.Refusal.{Refusal}
use Rattle.grid.specs.declared.Size.{Size}
use Rattle.grid.specs.declared.NetFacts.{NetFacts}
use Rattle.grid.specs.Channel.{pick, over, pins, family, density, rows_refused}
use Rattle.grid.specs.Refusals.{first_refusal, if_accepted, number, number_of, answer_of}
use Rattle.grid.specs.Answers.{no_size, size_of, rows_of, table_or, count_density, refused_within, accepted_size, accepted_facts, row_check, facts_check, density_count}
use Rattle.grid.proofs.Numbers.{pick_within, number_answer, figures_answer, accepted_by, refused_by, refused_is, accepted_is}
use Rattle.grid.specs.Working.{sizes_refused, Rows, Filled, some_to}
use Rattle.grid.proofs.Tests.{eqb-true, ltb-false, not-false, eq-eqb, ne_eqb, lt-ltb, le-ltb, or_false, pick_past}
use Rattle.grid.proofs.Rows.{rows_more}

-- THE FIRST NUMBER of a place and of the places after it

-- it is 0 only if both are
pub first_past : (k m : ℕ) → first_refusal k m ≡ 0 → (k ≡ 0) × (m ≡ 0)
first_past zero m e = (refl, e)
first_past (suc k) m e = absurd (omega arith)

-- that of the place where one applies
pub first_here : (k m : ℕ) → k ≢ 0 → first_refusal k m ≡ k
first_here zero m n = absurd (n refl)
first_here (suc k) m n = refl

-- and where none comes after it
pub no_later : (k : ℕ) → first_refusal k 0 ≡ k
no_later zero = refl
no_later (suc k) = refl

-- REFUSALS 4 TO 6

module _ (top bottom : List ℕ) (most : ℕ) where
  -- lengths that differ
  pub case_4 : length top ≢ length bottom → 4 ≡ sizes_refused top bottom most
  unfolding sizes_refused
  case_4 h = simp (ne_eqb (length top) (length bottom) h)

  module _ (e : length top ≡ length bottom) where
    -- too many columns
    pub case_5 : most < length top → 5 ≡ sizes_refused top bottom most
    unfolding sizes_refused
    case_5 h = simp (eq-eqb (length top) (length bottom) e, lt-ltb most (length top) h)

    -- whether there is a number over 256
    pub case_6 : length top ≤ most → (q : Bool) → (over top || over bottom) ≡ q → pick q 6 0 ≡ sizes_refused top bottom most
    unfolding sizes_refused
    case_6 l q o = simp (eq-eqb (length top) (length bottom) e, le-ltb most (length top) l, o)

  -- the rows that they leave
  pub rows_left : most ≤ 256 → sizes_refused top bottom most ≡ 0 → Rows top bottom
  unfolding sizes_refused
  rows_left l e =
      let (a, e₁) = pick_past (not (eqb (length top) (length bottom))) 4 _ 0 (omega arith) e in
      let (b, e₂) = pick_past (ltb most (length top)) 5 _ 0 (omega arith) e₁ in
      let (c, e₃) = pick_past (over top || over bottom) 6 0 0 (omega arith) e₂ in
      let (p, q) = or_false (over top) (over bottom) c in
      record { same = eqb-true (length top) (length bottom) (not-false _ a); short = omega (arith, ltb-false most (length top) b); above = p; below = q }

  -- refusal 7 comes after them
  pub after_sizes : rows_refused top bottom most ≡ first_refusal (sizes_refused top bottom most) (pick (some_to (λ v. eqb (pins top bottom v) 1) 256) 7 0)
  unfolding rows_refused sizes_refused
  after_sizes = go (not (eqb (length top) (length bottom))) (ltb most (length top)) (over top || over bottom) _
    where
      go : (a b c : Bool) (k : ℕ) → pick a 4 (pick b 5 (pick c 6 k)) ≡ first_refusal (pick a 4 (pick b 5 (pick c 6 0))) k
      go true b c k = refl
      go false true c k = refl
      go false false true k = refl
      go false false false k = refl

-- THE CASES

module _ (top bottom : List ℕ) (most : ℕ) where
  -- the number of refusals 4 to 6 where one applies
  pub case_sizes : (k : ℕ) → k ≡ sizes_refused top bottom (min most 256) → k ≢ 0 → k ≡ refused_within top bottom most
  case_sizes k e n =
      let later : ℕ = pick (some_to (λ v. eqb (pins top bottom v) 1) 256) 7 0 in
      sym (after_sizes top bottom (min most 256) ∙ ap (λ (z : ℕ). first_refusal z later) (sym e) ∙ first_here k later n)

  -- else whether a net has one pin
  pub case_7 : sizes_refused top bottom (min most 256) ≡ 0 → (q : Bool) → some_to (λ v. eqb (pins top bottom v) 1) 256 ≡ q → pick q 7 0 ≡ refused_within top bottom most
  case_7 e q o = sym (after_sizes top bottom (min most 256) ∙ ap₂ (λ (z : ℕ) (q : Bool). first_refusal z (pick q 7 0)) e o)

module _ (top bottom : List ℕ) (most : ℕ) where
  -- the row check's answer with a number
  pub refused_with : (r : Refusal) → number r ≡ refused_within top bottom most → Err r ≡ row_check top bottom most
  unfolding row_check
  refused_with r e = refused_is (refused_within top bottom most) (accepted_size top bottom) r e

  -- and with none
  pub fit_by : refused_within top bottom most ≡ 0 → Ok (accepted_size top bottom) ≡ row_check top bottom most
  unfolding row_check
  fit_by e = accepted_is (refused_within top bottom most) (accepted_size top bottom) _ e refl

-- the numbers are those of the table
pub rows_within : (top bottom : List ℕ) (most : ℕ) → rows_refused top bottom most ≤ 24
unfolding rows_refused
rows_within top bottom most = search (rules, pick_within) depth 12

-- NUMBER AND FIGURES

module _ (top bottom : List ℕ) where
  -- the row check's number is that of the definition
  pub check_number : (most : ℕ) → number_of (row_check top bottom most) ≡ refused_within top bottom most
  unfolding row_check
  check_number most = number_answer _ _ (rows_within top bottom (min most 256))

  -- and its figures are the rows' on acceptance and zeros on refusal
  pub check_figures : (most : ℕ) → size_of (row_check top bottom most) ≡ if_accepted (refused_within top bottom most) (accepted_size top bottom) no_size
  unfolding row_check
  check_figures most = figures_answer no_size (refused_within top bottom most) (accepted_size top bottom)

  -- its number with the facts
  pub facts-number : (most : ℕ) → number_of (facts_check top bottom most) ≡ refused_within top bottom most
  unfolding facts_check
  facts-number most = number_answer _ _ (rows_within top bottom (min most 256))

  -- so of the density call
  pub density-number : number_of (density_count top bottom) ≡ rows_refused top bottom 256
  unfolding density_count
  density-number = number_answer _ _ (rows_within top bottom 256)

  pub density_figure : count_density (density_count top bottom) ≡ if_accepted (rows_refused top bottom 256) (density top bottom) 0
  unfolding density_count
  density_figure = figures_answer 0 (rows_refused top bottom 256) (density top bottom)

  -- what a call that answers the row check promises of it
  pub rows_promise : (most : ℕ) (r : Result Size Refusal) → r ≡ row_check top bottom most
      → (number_of r ≡ refused_within top bottom most) × (size_of r ≡ if_accepted (number_of r) (accepted_size top bottom) no_size)
  rows_promise most r e =
      let n = ap number_of e ∙ check_number most in
      (n, ap size_of e ∙ check_figures most ∙ ap (λ (k : ℕ). if_accepted k (accepted_size top bottom) no_size) (sym n))

  -- and of the density
  pub density_promise : (r : Result ℕ Refusal) → r ≡ density_count top bottom
      → (number_of r ≡ rows_refused top bottom 256) × (count_density r ≡ if_accepted (number_of r) (density top bottom) 0)
  density_promise r e =
      let n = ap number_of e ∙ density-number in
      (n, ap count_density e ∙ density_figure ∙ ap (λ (k : ℕ). if_accepted k (density top bottom) 0) (sym n))

  -- the density call's answer where the row check has one
  pub density_refused : (r : Refusal) → number r ≡ rows_refused top bottom 256 → Err r ≡ density_count top bottom
  unfolding density_count
  density_refused r e = refused_is (rows_refused top bottom 256) (density top bottom) r e

  pub density_told : (s : Size) → Ok s ≡ row_check top bottom 256 → Ok s.density ≡ density_count top bottom
  unfolding density_count row_check
  density_told s e =
      let (z, f) = accepted_by (rows_refused top bottom 256) (accepted_size top bottom) s e in
      accepted_is (rows_refused top bottom 256) (density top bottom) s.density z (ap (λ (s : Size). s.density) f)

  -- and the call with the facts of the nets
  pub facts_refused : (most : ℕ) (r : Refusal) → Err r ≡ row_check top bottom most → Err r ≡ facts_check top bottom most
  unfolding facts_check row_check
  facts_refused most r e =
      refused_is (refused_within top bottom most) (accepted_facts top bottom) r
      (refused_by (refused_within top bottom most) (accepted_size top bottom) r (rows_within top bottom (min most 256)) e)

  pub facts_told : (most : ℕ) (s : Size) (first last counts : List ℕ) → Ok s ≡ row_check top bottom most
      → (refused_within top bottom most ≡ 0 → Filled top bottom first last counts)
      → Ok (record { size = s; first = first; last = last; pins = counts }) ≡ facts_check top bottom most
  unfolding facts_check row_check
  facts_told most s first last counts e f =
      let (z, i) = accepted_by (refused_within top bottom most) (accepted_size top bottom) s e in
      let g : Filled top bottom first last counts = f z in
      let a = g.firsts in
      let b = g.lasts in
      let p = g.pinned in
      accepted_is (refused_within top bottom most) (accepted_facts top bottom) _ z (cc)

-- WHAT THE CALL WITH THE FACTS PROMISES
module _ (top bottom : List ℕ) (most : ℕ) where
  -- the row check stands in its answer
  pub rows_answer : rows_of (facts_check top bottom most) ≡ row_check top bottom most
  unfolding facts_check row_check
  rows_answer = go (refused_within top bottom most)
    where
      go : (k : ℕ) → rows_of (answer_of k (accepted_facts top bottom)) ≡ answer_of k (accepted_size top bottom)
      go zero = refl
      go (suc k) = refl

  -- a caller's table holds the answer's figures on acceptance and the old contents on refusal
  pub table_answer : (of : NetFacts → List ℕ) (old : List ℕ)
      → table_or of old (facts_check top bottom most) ≡ if_accepted (refused_within top bottom most) (of (accepted_facts top bottom)) old
  unfolding facts_check
  table_answer of old = go (refused_within top bottom most)
    where
      go : (k : ℕ) → table_or of old (answer_of k (accepted_facts top bottom)) ≡ if_accepted k (of (accepted_facts top bottom)) old
      go zero = refl
      go (suc k) = refl

  -- so of an answer that equals it
  module _ (r : Result NetFacts Refusal) (e : r ≡ facts_check top bottom most) where
    pub rows_promised : rows_of r ≡ row_check top bottom most
    rows_promised = ap rows_of e ∙ rows_answer

    pub number_promised : number_of r ≡ refused_within top bottom most
    number_promised = ap number_of e ∙ facts-number top bottom most

    pub table_promised : (of : NetFacts → List ℕ) (old : List ℕ) → table_or of old r ≡ if_accepted (number_of r) (of (accepted_facts top bottom)) old
    table_promised of old =
        ap (λ (z : Result NetFacts Refusal). table_or of old z) e ∙ table_answer of old
        ∙ ap (λ (k : ℕ). if_accepted k (of (accepted_facts top bottom)) old) (sym number_promised)

    pub figures_promised : size_of (rows_of r) ≡ if_accepted (number_of r) (accepted_size top bottom) no_size
    figures_promised =
        ap size_of rows_promised ∙ check_figures top bottom most ∙ ap (λ (k : ℕ). if_accepted k (accepted_size top bottom) no_size) (sym number_promised)

-- FOR CALLERS OF THE ROW CHECK

-- rows accepted within any limit are accepted
pub accepted : (top bottom : List ℕ) (most : ℕ) → refused_within top bottom most ≡ 0 → rows_refused top bottom 256 ≡ 0
accepted top bottom most e = rows_more top bottom (min most 256) 256 (omega arith) e

-- accepted rows and their figures
pub record Told (top bottom : List ℕ) (most : ℕ) (s : Size) : Type 0 where
  pub number : refused_within top bottom most ≡ 0
  pub columns : s.columns ≡ length top
  pub figure : s.density ≡ density top bottom
  pub family : s.family ≡ family top bottom

-- an answer with a size
pub told : (top bottom : List ℕ) (most : ℕ) (r : Result Size Refusal) (s : Size) → r ≡ row_check top bottom most → r ≡ Ok s → Told top bottom most s
unfolding row_check
told top bottom most r s e f =
    let (n, a) = accepted_by (refused_within top bottom most) (accepted_size top bottom) s (sym f ∙ e) in
    record { number = n; columns = (cc); figure = (cc); family = (cc) }

-- and one with the facts of the nets
pub told_facts : (top bottom : List ℕ) (most : ℕ) (r : Result NetFacts Refusal) (f : NetFacts) → r ≡ facts_check top bottom most → r ≡ Ok f
    → (refused_within top bottom most ≡ 0) × (f ≡ accepted_facts top bottom)
unfolding facts_check
told_facts top bottom most r f e i = accepted_by (refused_within top bottom most) (accepted_facts top bottom) f (sym i ∙ e)

-- a value on acceptance
pub accepted_new : {A : Type 0} (k : ℕ) (new old : A) → k ≡ 0 → if_accepted k new old ≡ new
accepted_new k new old e = rw e

-- and on refusal
pub accepted_old : {A : Type 0} (k : ℕ) (new old : A) → k ≢ 0 → if_accepted k new old ≡ old
accepted_old zero new old n = absurd (n refl)
accepted_old (suc k) new old n = refl
