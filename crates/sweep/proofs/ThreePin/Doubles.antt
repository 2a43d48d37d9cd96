-- The unpaired double nets of a gap of a three-pin channel: the one that ends last, and the lowest-numbered other one.
use Prim.Native.Nat.{ℕ, ◌≤◌}
use mathlib.Core.Path.{◌≡◌, refl, sym, ◌∙◌}
use mathlib.Core.Logic.{◌≢◌}
use mathlib.Core.Bool.{true, not, ◌&&◌}
use mathlib.Core.List.{List}
use native.Mathlib.Omega.{arith}
use native.Mathlib.Decide.{ℕ_discrete}
use lib.Dec.{eqb}
use Rattle.grid.specs.Channel.{times}
use Rattle.grid.specs.Nets.{last_column}
use Rattle.grid.proofs.Tests.{and_true, not-true, eqb-true, eqb-false, eq-eqb, ne_eqb, not_both}
use Rattle.grid.proofs.Counting.{at_below}
use Rattle.sweep.specs.declared.Pin.{Pin}
use Rattle.sweep.specs.declared.Free.{Free}
use Rattle.sweep.specs.declared.Double.{Double}
use Rattle.sweep.specs.Tracks.{many}
use Rattle.sweep.specs.Pairs.{mate}
use Rattle.sweep.specs.Drawing.{lone_double, latest_double, other_double, double_of}
use Rattle.sweep.proofs.Tracks.Strands.{lowest_is, highest_is, lowest<highest, many-times, between}
use Rattle.sweep.proofs.Tracks.Nets.{no_net, a_net}
use Rattle.sweep.proofs.Actions.Reduces.{Doubled}
use Rattle.sweep.proofs.ThreePin.Pairs.{no_latest, a_latest, latest_most}
use Rattle.sweep.proofs.ThreePin.Kept.{small, cap}
use Rattle.sweep.proofs.ThreePin.Works.{ThreeColumn}
use Rattle.sweep.proofs.ThreePin.Calm.{Calm, Lone, lone_open}

module _ {t : ℕ} {top bottom : List ℕ} {c : ℕ} {tr m : List ℕ} {A B : Pin} {f : Free} (k : ThreeColumn t top bottom c tr m A B f) where
  -- D is an unpaired double net
  pub record Stands (D : Double) : Type 0 where
    pub doubled : Doubled tr D
    pub lone : Lone k D.net
    pub last : D.last ≡ last_column top bottom D.net

  -- D and M (net 0: none) are two such nets: M ends no later; without D there is none in a calm column, and without M only D
  pub record Doubles (D M : Double) : Type 0 where
    pub first : D.net ≢ 0 → Stands D
    pub other : M.net ≢ 0 → Stands M × (D.net ≢ M.net) × (last_column top bottom M.net ≤ last_column top bottom D.net)
    pub none : Calm k → D.net ≡ 0 → (v : ℕ) → v ≢ 0 → 2 ≤ times v tr → mate v m ≢ 0
    pub only : Calm k → M.net ≡ 0 → (v : ℕ) → Lone k v → D.net ≡ v

  -- a net that passes the test
  test_lone : (v : ℕ) → lone_double tr m v ≡ true → Lone k v
  unfolding lone_double
  test_lone v e =
      let (a, b) = and_true (not (eqb v 0)) (eqb (many v tr) 2 && eqb (mate v m) 0) e in
      let (p, r) = and_true (eqb (many v tr) 2) (eqb (mate v m) 0) b in
      record {
        some = eqb-false v 0 (not-true (eqb v 0) a);
        thick = omega (arith, many-times v tr, eqb-true (many v tr) 2 p);
        free = eqb-true (mate v m) 0 r;
      }

  -- in a calm column an unpaired double net passes it
  lone_test : Calm k → (v : ℕ) → Lone k v → lone_double tr m v ≡ true
  unfolding lone_double
  lone_test q v l =
      let most = cap top bottom k.fit k.three c tr k.kept.held v l.some (lone_open k q v l) in
      let two : many v tr ≡ 2 = omega (arith, l.thick, many-times v tr) in
      rw (ne_eqb v 0 l.some, eq-eqb (many v tr) 2 two, eq-eqb (mate v m) 0 l.free) refl

  -- it is one of 1 to 256
  lone_small : (v : ℕ) → Lone k v → v ≤ 256
  lone_small v l = small top bottom k.fit v c (omega (arith, k.kept.held.few v l.some, l.thick))

  -- as a double net it is itself
  double_net : (v : ℕ) → (double_of top bottom tr v).net ≡ v
  unfolding double_of
  double_net v = go (ℕ_discrete v 0)
    where
      go : Dec (v ≡ 0) → (double_of top bottom tr v).net ≡ v
      go (yes e) = rw (eq-eqb v 0 e) (sym e)
      go (no n) = rw (ne_eqb v 0 n) refl

  -- and stands with its strands
  double_stands : (v : ℕ) → Lone k v → Stands (double_of top bottom tr v)
  unfolding double_of
  double_stands v l = rw (ne_eqb v 0 l.some) (record {
    doubled = record {
      some = l.some;
      low_is = lowest_is v tr (omega (arith, l.thick));
      high_is = highest_is v tr (omega (arith, l.thick));
      apart = lowest<highest v tr l.thick;
      span = λ j e. between v tr j (at_below tr j v l.some e) e;
    };
    lone = l;
    last = refl;
  })

  -- the net that ends last, and the other one
  abbrev latest : ℕ
  latest = latest_double top bottom tr m

  abbrev other : ℕ
  other = other_double top bottom tr m

  -- each is such a net, and none ends later than the latest
  latest_lone : latest ≢ 0 → Lone k latest
  unfolding latest_double
  latest_lone n = test_lone latest (a_latest (last_column top bottom) (lone_double tr m) 256 latest n refl).0

  other_lone : other ≢ 0 → Lone k other × (latest ≢ other) × (last_column top bottom other ≤ last_column top bottom latest)
  unfolding latest_double other_double
  other_lone n =
      let (a, b) = and_true (lone_double tr m other) (not (eqb other latest)) (a_net (λ v. lone_double tr m v && not (eqb v latest)) tr other n refl).0 in
      let l = test_lone other a in (
        l,
        λ i. eqb-false other latest (not-true (eqb other latest) b) (sym i),
        latest_most (last_column top bottom) (lone_double tr m) 256 other n (lone_small other l) a,
      )

  -- without it there is none, and without the other one only the latest
  none_lone : Calm k → latest ≡ 0 → (v : ℕ) → Lone k v → ⊥
  unfolding latest_double
  none_lone q e v l = not_both (lone_test q v l) (no_latest (last_column top bottom) (lone_double tr m) 256 e v l.some (lone_small v l))

  only_lone : Calm k → other ≡ 0 → (v : ℕ) → Lone k v → latest ≡ v
  unfolding other_double
  only_lone q e v l = go (ℕ_discrete latest v)
    where
      go : Dec (latest ≡ v) → latest ≡ v
      go (yes i) = i
      go (no i) = absurd (omega (
        arith,
        no_net (λ u. lone_double tr m u && not (eqb u latest)) tr e v l.some (rw (lone_test q v l, ne_eqb v latest (λ j. i (sym j))) refl),
        l.thick,
      ))

  -- THE UNPAIRED DOUBLE NETS of the gap
  pub doubles : Doubles (double_of top bottom tr (latest_double top bottom tr m)) (double_of top bottom tr (other_double top bottom tr m))
  doubles = record {
    first = λ n. double_stands latest (latest_lone (λ z. n (double_net latest ∙ z)));
    other = λ n. (let (l, d, e) = other_lone (λ z. n (double_net other ∙ z)) in
        (double_stands other l, rw (double_net latest, double_net other) d, rw (double_net latest, double_net other) e));
    none = λ q e v n p z. none_lone q (sym (double_net latest) ∙ e) v record { some = n; thick = p; free = z };
    only = λ q e v l. double_net latest ∙ only_lone q (sym (double_net other) ∙ e) v l;
  }
