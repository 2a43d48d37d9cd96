-- A column of five segments fits where each net runs straight, is carried on or ends in one run, and no end is loose. Assumes nothing.
use Prim.Native.Nat.{ℕ, zero-le}
use mathlib.Core.Path.{◌≡◌, sym, ◌∙◌}
use mathlib.Core.Logic.{inl, inr, ◌≢◌, ⊎_elim}
use native.Mathlib.Omega.{arith}
use Rattle.grid.specs.declared.Segments.{Segments}
use Rattle.grid.specs.Segments.{segment}
use Rattle.grid.proofs.Drawings.Columns.{Column}
pub use Rattle.grid.proofs.Drawings.Columns.{Source}
use Rattle.grid.proofs.Drawings.Segments.{Ordered, Draws, Run, bottom_run, middle_run, top_run, GoOn, in_run, Fares, strand_in, fares_local}
use Rattle.grid.proofs.Drawings.Ends.{Stopped, tidy_edges}

-- What a sweep shows of a column with the pins P above and Q below
pub record Fits (t P Q : ℕ) (s : Segments) (L R : ℕ → ℕ) : Type 0 where
  pub order : Ordered t s
  pub bottom_is : s.bottom ≡ Q
  pub top_is : s.top ≡ P
  pub bottom_end : segment s 0 ≡ Q
  pub top_end : segment s t ≡ P
  pub middle_from : s.middle ≢ 0 → Source P Q L s.middle
  pub out_from : (j N : ℕ) → N ≢ 0 → R j ≡ N → Source P Q L N
  pub fares : (N : ℕ) → N ≢ 0 → Fares t s L R N
  pub ends : (N : ℕ) → N ≢ 0 → Stopped t s L R N
  pub outs : (N : ℕ) → N ≢ 0 → GoOn t s R L N

-- then its column fits. What comes in goes on by the way in which its net fares
pub segments_column : {t P Q : ℕ} {s : Segments} {L U R : ℕ → ℕ} → Draws t s U → Fits t P Q s L R → Column t P Q L U R
segments_column {t} {P} {Q} {s} {L} {U} {R} u f =
    record {
      bottom_pin = u.inside 0 zero-le ∙ f.bottom_end;
      top_pin = u.inside t (omega arith) ∙ f.top_end;
      local = λ N n. fares_local f.order u n (f.fares N n);
      source = λ N n y e. ⊎_elim (λ e. run N n (in_run f.order u N y n e).2) (f.out_from y N n) e;
      tidy = λ N n. tidy_edges f.order u n record { ends = f.ends N n; ins = strand_in (f.fares N n); outs = f.outs N n };
    }
  where
    run : {lo hi : ℕ} (N : ℕ) → N ≢ 0 → Run t s N lo hi → Source P Q L N
    run N n (bottom_run e) = inl (inr (sym f.bottom_is ∙ e))
    run N n (middle_run e) = rw e at (f.middle_from (λ z. n (sym e ∙ z)))
    run N n (top_run e) = inl (inl (sym f.top_is ∙ e))
