-- What an action has to show for its column to fit: every track that it gives was free or belonged to the net that ends, so all other strands run straight;
-- and its wires end at strands, so no end is loose.
use Prim.Native.Nat.{ℕ, zero, suc, ◌≤◌, ◌<◌}
use mathlib.Core.Path.{◌≡◌, refl, sym, ◌∙◌, subst}
use mathlib.Core.Logic.{◌⊎◌, inl, inr, ◌≢◌, ⊎_elim}
use mathlib.Core.Bool.{Bool, true, false}
use mathlib.Core.List.{List}
use native.Mathlib.Omega.{arith}
use native.Mathlib.Decide.{ℕ_discrete}
use lib.ListN.{length, get_or}
use Rattle.grid.specs.Channel.{pick}
use Rattle.grid.proofs.Drawings.Columns.{Column}
use Rattle.grid.specs.Segments.{segment}
use Rattle.grid.proofs.Drawings.Segments.{Ordered, AtRun, GoOn, Fares, carried}
use Rattle.grid.proofs.Drawings.Ends.{Stop, at_bottom, at_top, at_left, at_right, Stopped}
use Rattle.grid.proofs.Drawings.Fits.{Source, segments_column}
use Rattle.sweep.specs.declared.Action.{Action}
use Rattle.sweep.specs.Tracks.{verticals, after, clear, give}
use Rattle.sweep.specs.Working.{FreeAt, Applies, Named, nobody, top_net, bottom_net, ended_net, Plain}
use Rattle.sweep.proofs.Columns.Entries.{draws}
use Rattle.sweep.proofs.Tracks.Strands.{Strand, strand_of, strand_at}
use Rattle.sweep.proofs.Tracks.After.{Gives, one, two, three, Distinct, after_back, runs_on, length-clear, length-give, give_other, clear-free}

-- A SOUND ACTION

-- the tracks of a list by index, track j + 1 at j
abbrev pub on : List ℕ → ℕ → ℕ
on tr j = get_or tr j 0

-- v is none, or a net with a pin or a strand here
pub data Known (P Q : ℕ) (tr : List ℕ) (v : ℕ) : Type 0 where
  pin_net : Named P Q 0 v → Known P Q tr v
  strand_net : {y : ℕ} → Strand v tr y → Known P Q tr v

-- track y (0: none) goes to the net v: it is free or belongs to the net e that ends
pub record Grant (P Q e : ℕ) (tr : List ℕ) (y v : ℕ) : Type 0 where
  pub vacant : (j : ℕ) → y ≡ suc j → (j < length tr) × ((get_or tr j 0 ≡ 0) ⊎ (get_or tr j 0 ≡ e))
  pub named : Named P Q e v

-- where the run of a pin's net N ends, at row r: N leaves there; or its strands end, and one comes in there; or its strands end and the run goes through
pub data Lands (t : ℕ) (x : Action) (tr : List ℕ) (N r : ℕ) : Type 0 where
  outward : Strand N (after x tr) r → Lands t x tr N r
  inward : (x.ended ≡ N) ⊎ (x.closed ≡ N) → Strand N tr r → Lands t x tr N r
  through : (x.ended ≡ N) ⊎ (x.closed ≡ N) → r ≡ suc t → Lands t x tr N r

-- a track given to N was its own, or meets a run of it
abbrev pub Given : (t : ℕ) (x : Action) (tr : List ℕ) → Type 0
Given t x tr = (j N : ℕ) → N ≢ 0 → Gives x j N → (get_or tr j 0 ≡ N) ⊎ AtRun t x.wires N (suc j)

pub record Sound (t P Q : ℕ) (tr : List ℕ) (x : Action) : Type 0 where
  pub order : Ordered t x.wires
  pub bottom_is : x.wires.bottom ≡ Q
  pub top_is : x.wires.top ≡ P
  pub bottom_end : segment x.wires 0 ≡ Q
  pub top_end : segment x.wires t ≡ P
  pub distinct : Distinct x
  pub grant1 : Grant P Q x.ended tr x.gift1.track x.gift1.net
  pub grant2 : Grant P Q x.ended tr x.gift2.track x.gift2.net
  pub grant3 : Grant P Q x.ended tr x.gift3.track x.gift3.net
  pub ended_known : Known P Q tr x.ended
  pub closed_named : Named P Q x.ended x.closed
  -- the middle net ends, and its run joins two of its strands
  pub middle_is : (x.wires.middle ≡ 0) ⊎ ((x.wires.middle ≡ x.ended) × Strand x.ended tr x.wires.start × Strand x.ended tr x.wires.stop)
  -- a pin's run ends at a strand of its net, and a net that goes on leaves there
  pub bottom_lands : Q ≢ 0 → Lands t x tr Q x.wires.low
  pub top_lands : P ≢ 0 → Lands t x tr P x.wires.high
  pub given : Given t x tr
  pub ended_fares : x.ended ≢ 0 → Fares t x.wires (on tr) (on (after x tr)) x.ended
  pub closed_fares : x.closed ≢ 0 → Fares t x.wires (on tr) (on (after x tr)) x.closed

-- a strand as the segments have it
pub out_at : {N y lo hi : ℕ} {tr : List ℕ} → Strand N tr y → lo ≤ y → y ≤ hi → (j : ℕ) × (get_or tr j 0 ≡ N) × (lo ≤ suc j) × (suc j ≤ hi)
out_at s p q = (s.index, s.holds, omega (arith, s.is), omega (arith, s.is))

-- the run of a net that goes on ends where it leaves
pub lands_out : {t N r : ℕ} {x : Action} {tr : List ℕ} → x.ended ≢ N → x.closed ≢ N → Lands t x tr N r → Strand N (after x tr) r
lands_out m k (outward s) = s
lands_out m k (inward o s) = absurd (⊎_elim m k o)
lands_out m k (through o e) = absurd (⊎_elim m k o)

-- and any run at a strand or beyond the tracks
lands_stop : {t N r : ℕ} {x : Action} {tr : List ℕ} → Lands t x tr N r → Stop t (on tr) (on (after x tr)) N r
lands_stop (outward s) = at_right s.is s.holds
lands_stop (inward o s) = at_left s.is s.holds
lands_stop (through o e) = at_top e

-- another net's strand is not given away
not_given : {P Q e : ℕ} {tr : List ℕ} {y v : ℕ} → Grant P Q e tr y v → (j N : ℕ) → N ≢ 0 → e ≢ N → get_or tr j 0 ≡ N → y ≢ suc j
not_given g j N n m f i = ⊎_elim (λ z. n (sym f ∙ z)) (λ z. m (sym z ∙ f)) (g.vacant j i).1

module _ (t P Q : ℕ) (tr : List ℕ) (x : Action) (s : Sound t P Q tr x) where
  -- ALL OTHER STRANDS RUN STRAIGHT
  pub kept : (j N : ℕ) → N ≢ 0 → x.ended ≢ N → x.closed ≢ N → get_or tr j 0 ≡ N → get_or (after x tr) j 0 ≡ N
  kept j N n m k f =
      strand_at (runs_on x tr (strand_of N tr j n f) m k (not_given s.grant1 j N n m f) (not_given s.grant2 j N n m f) (not_given s.grant3 j N n m f))

  -- where a pin's run ends, by its net
  pub bottom_lands_lem : (N : ℕ) → N ≢ 0 → Q ≡ N → Lands t x tr N x.wires.low
  bottom_lands_lem N n e = subst (λ (z : ℕ). Lands t x tr z x.wires.low) e (s.bottom_lands (λ i. n (sym e ∙ i)))

  pub top_lands_lem : (N : ℕ) → N ≢ 0 → P ≡ N → Lands t x tr N x.wires.high
  top_lands_lem N n e = subst (λ (z : ℕ). Lands t x tr z x.wires.high) e (s.top_lands (λ i. n (sym e ∙ i)))

  -- a net that does not end is carried on
  others : (N : ℕ) → N ≢ 0 → x.ended ≢ N → x.closed ≢ N → Fares t x.wires (on tr) (on (after x tr)) N
  others N n m k =
      carried record {
        exits = record {
          on_bottom = λ e p. out_at (lands_out m k (bottom_lands_lem N n (sym s.bottom_is ∙ e))) (omega arith) (omega arith);
          on_middle = λ e p. ⊎_elim (λ z. absurd (n (sym e ∙ z))) (λ z. absurd (m (sym z.0 ∙ e))) s.middle_is;
          on_top = λ e p. out_at (lands_out m k (top_lands_lem N n (sym s.top_is ∙ e))) (omega arith) (omega arith);
        };
        ins = λ j e. inl (kept j N n m k e);
      }

  -- so every net fares well
  fares : (N : ℕ) → N ≢ 0 → Fares t x.wires (on tr) (on (after x tr)) N
  fares N n = go (ℕ_discrete x.ended N) (ℕ_discrete x.closed N)
    where
      go : Dec (x.ended ≡ N) → Dec (x.closed ≡ N) → Fares t x.wires (on tr) (on (after x tr)) N
      go (yes e) d = subst (λ (z : ℕ). Fares t x.wires (on tr) (on (after x tr)) z) e (s.ended_fares (λ i. n (sym e ∙ i)))
      go (no m) (yes e) = subst (λ (z : ℕ). Fares t x.wires (on tr) (on (after x tr)) z) e (s.closed_fares (λ i. n (sym e ∙ i)))
      go (no m) (no k) = others N n m k

  -- NO LOOSE END: every run ends at a strand or beyond the tracks
  ends : (N : ℕ) → N ≢ 0 → Stopped t x.wires (on tr) (on (after x tr)) N
  ends N n = record {
    on_bottom = λ e p. (at_bottom refl, lands_stop (bottom_lands_lem N n (sym s.bottom_is ∙ e)));
    on_middle = λ e p.
        ⊎_elim (λ z. absurd (n (sym e ∙ z))) (λ z. (let f = sym z.0 ∙ e in (at_left z.1.is (z.1.holds ∙ f), at_left z.2.is (z.2.holds ∙ f))))
        s.middle_is;
    on_top = λ e p. (lands_stop (top_lands_lem N n (sym s.top_is ∙ e)), at_top refl);
  }

  -- and what leaves came in there, or meets a run
  outs : (N : ℕ) → N ≢ 0 → GoOn t x.wires (on (after x tr)) (on tr) N
  outs N n j e = ⊎_elim (s.given j N n) (λ d. inl d.0) (after_back x tr j N n e)

  -- a net that the action names has a pin or a strand here
  known : {v : ℕ} → Named P Q x.ended v → Known P Q tr v
  known (nobody z) = pin_net (nobody z)
  known (top_net z) = pin_net (top_net z)
  known (bottom_net z) = pin_net (bottom_net z)
  known (ended_net z) = subst (Known P Q tr) (sym z) s.ended_known

  -- what leaves has a pin here or came in
  pub source : (j N : ℕ) → N ≢ 0 → get_or (after x tr) j 0 ≡ N → Source P Q (on tr) N
  source j N n e = ⊎_elim from (λ d. inr (j, d.0)) (after_back x tr j N n e)
    where
      at : {v : ℕ} → v ≡ N → Known P Q tr v → Source P Q (on tr) N
      at f (pin_net (nobody z)) = absurd (n (sym f ∙ z))
      at f (pin_net (top_net z)) = inl (inl (z ∙ f))
      at f (pin_net (bottom_net z)) = inl (inr (z ∙ f))
      at f (pin_net (ended_net z)) = absurd (n (sym f ∙ z))
      at f (strand_net z) = inr (z.index, z.holds ∙ f)

      from : Gives x j N → Source P Q (on tr) N
      from (one e f) = at f (known s.grant1.named)
      from (two e f) = at f (known s.grant2.named)
      from (three e f) = at f (known s.grant3.named)

  -- THE COLUMN FITS
  pub column : Column t P Q (on tr) (λ y. get_or (verticals t x) y 0) (on (after x tr))
  column = segments_column (draws t x) record {
    order = s.order;
    bottom_is = s.bottom_is;
    top_is = s.top_is;
    bottom_end = s.bottom_end;
    top_end = s.top_end;
    middle_from = λ n. ⊎_elim (λ z. absurd (n z)) (λ z. inr (z.1.index, z.1.holds ∙ sym z.0)) s.middle_is;
    out_from = source;
    fares = fares;
    ends = ends;
    outs = outs;
  }

  -- THE TRACKS GIVEN ARE FREE BY THEN
  abbrev base : List ℕ
  base = clear x.closed (clear x.ended tr)

  -- once the nets have ended, a track given is free
  free_base : {y v : ℕ} → Grant P Q x.ended tr y v → (j : ℕ) → y ≡ suc j → (j < length base) × (get_or base j 0 ≡ 0)
  free_base g j e =
      (simp length-clear (g.vacant j e).0, clear-free x.closed (clear x.ended tr) j (inl (clear-free x.ended tr j (g.vacant j e).1)))

  -- a track that is free wherever it is one
  free_at : (y : ℕ) (l : List ℕ) → ((j : ℕ) → y ≡ suc j → (j < length l) × (get_or l j 0 ≡ 0)) → FreeAt y l
  free_at zero l f = tt
  free_at (suc j) l f = f j refl

  -- so the action applies
  pub applies : ((v : ℕ) → Known P Q tr v → v ≤ 256) → Applies x tr
  applies small = record {
    ended = small x.ended s.ended_known;
    closed = small x.closed (known s.closed_named);
    net1 = small x.gift1.net (known s.grant1.named);
    net2 = small x.gift2.net (known s.grant2.named);
    net3 = small x.gift3.net (known s.grant3.named);
    free1 = free_at x.gift1.track base (free_base s.grant1);
    free2 = free_at x.gift2.track (give x.gift1.track x.gift1.net base) (λ j e. (let f = free_base s.grant2 j e in
        (rw length-give f.0, give_other x.gift1.track x.gift1.net base j (λ i. s.distinct.d12 j i e) ∙ f.1)));
    free3 = free_at x.gift3.track (give x.gift2.track x.gift2.net (give x.gift1.track x.gift1.net base)) (λ j e. (let f = free_base s.grant3 j e in (
      rw (length-give, length-give) f.0,
      give_other x.gift2.track x.gift2.net (give x.gift1.track x.gift1.net base) j (λ i. s.distinct.d23 j i e)
          ∙ give_other x.gift1.track x.gift1.net base j (λ i. s.distinct.d13 j i e) ∙ f.1,
    )));
  }

  -- and names no other nets
  pub plain : Plain P Q x
  plain = record { closed = s.closed_named; net1 = s.grant1.named; net2 = s.grant2.named; net3 = s.grant3.named }

-- TRACKS GIVEN

module _ {P Q e : ℕ} {tr : List ℕ} where
  -- none
  pub grant_idle : {v : ℕ} → Named P Q e v → Grant P Q e tr 0 v
  grant_idle k = record { vacant = λ j i. absurd (omega arith); named = k }

  pub grant_none : Grant P Q e tr 0 0
  grant_none = grant_idle (nobody refl)

  -- a free track, or one of the net that ends
  grant_by : {u y v : ℕ} → (u ≡ 0) ⊎ (u ≡ e) → Strand u tr y → Named P Q e v → Grant P Q e tr y v
  grant_by {u} {y} o s k = record {
    vacant = λ j i. (let h : get_or tr j 0 ≡ u = strand_at (rw i at s) in (omega (arith, s.is, s.inside), ⊎_elim (λ z. inl (h ∙ z)) (λ z. inr (h ∙ z)) o));
    named = k;
  }

  pub grant_free : {y v : ℕ} → Strand 0 tr y → Named P Q e v → Grant P Q e tr y v
  grant_free = grant_by (inl refl)

  pub grant_old : {y v : ℕ} → Strand e tr y → Named P Q e v → Grant P Q e tr y v
  grant_old = grant_by (inr refl)

  -- a track that may be none
  pub grant_unless : (b : Bool) {y v : ℕ} → Grant P Q e tr y v → Grant P Q e tr (pick b 0 y) v
  grant_unless true g = grant_idle g.named
  grant_unless false g = g
