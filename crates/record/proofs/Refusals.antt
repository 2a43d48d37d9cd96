-- Refusals 1 to 3: the number at each way out of the check, and what holds where nothing is refused. Assumes nothing.
use Prim.Native.Nat.{ℕ, ◌+◌, ◌*◌, ◌-◌, ◌≤◌, ◌<◌}
use native.Mathlib.Omega.{arith}
use mathlib.Core.Bool.{Bool, true, false}
use mathlib.Core.Path.{◌≡◌, refl, ap, sym, ◌∙◌}
use mathlib.Core.List.{List}
use lib.Dec.{ltb}
use lib.ListN.{length}
use borrow.Author.Tests.{lt-ltb, le-ltb, eq-eqb, ne_eqb, ltb-false, eqb-true, not-false}
use Rattle.std.specs.Prelude.{Result, Ok, Err}
use Rattle.std.proofs.Common.{rules}
use Rattle.grid.specs.Channel.{pick}
use Rattle.grid.specs.declared.refusals.Refusal.{Refusal}
use Rattle.grid.specs.Refusals.{if_accepted, number, number_of}
use Rattle.grid.proofs.Numbers.{pick_within, number_answer, figures_answer, accepted_is}
use Rattle.grid.proofs.Numbers.{refused_is as refused_by_number}
use Rattle.grid.proofs.Tests.{or_false}
use Rattle.record.specs.Record.{word, wrong_length, wrong_kind, wrong_body, record_refused, columns, record_read}

module _ (s : List ℕ) where
  -- under 4 bytes
  pub too_short : length s < 4 → 1 ≡ record_refused s
  unfolding record_refused wrong_length
  too_short h = simp (lt-ltb (length s) 4 h)

  module _ (h₁ : 4 ≤ length s) where
    -- over 1,030 bytes
    pub too_long : 1030 < length s → 1 ≡ record_refused s
    unfolding record_refused wrong_length
    too_long h = simp (le-ltb (length s) 4 h₁, lt-ltb 1030 (length s) h)

    module _ (h₂ : length s ≤ 1030) where
      -- the length field differs
      pub other_length : (v : ℕ) → v ≡ word s 0 → (v ≡ length s - 2 → ⊥) → 1 ≡ record_refused s
      unfolding record_refused wrong_length
      other_length v e h = simp (le-ltb (length s) 4 h₁, le-ltb 1030 (length s) h₂, ne_eqb (word s 0) (length s - 2) (λ x. h (e ∙ x)))

      module _ (v₁ : ℕ) (e₁ : v₁ ≡ word s 0) (h₃ : v₁ ≡ length s - 2) where
        -- the length is right
        right-length : wrong_length s ≡ false
        unfolding wrong_length
        right-length = simp (le-ltb (length s) 4 h₁, le-ltb 1030 (length s) h₂, eq-eqb (word s 0) (length s - 2) (sym e₁ ∙ h₃))

        -- another kind
        pub other_kind : (v : ℕ) → v ≡ word s 2 → (v ≡ 1 → ⊥) → 2 ≡ record_refused s
        unfolding record_refused wrong_kind
        other_kind v e h = simp (right-length, ne_eqb (word s 2) 1 (λ x. h (e ∙ x)))

        module _ (v₂ : ℕ) (e₂ : v₂ ≡ word s 2) (h₄ : v₂ ≡ 1) where
          -- the kind is right
          right_kind : wrong_kind s ≡ false
          unfolding wrong_kind
          right_kind = simp (eq-eqb (word s 2) 1 (sym e₂ ∙ h₄))

          -- a body without n
          pub no_columns : length s - 4 < 2 → 3 ≡ record_refused s
          unfolding record_refused wrong_body
          no_columns h = simp (right-length, right_kind, lt-ltb (length s - 4) 2 h)

          module _ (h₅ : 2 ≤ length s - 4) (n : ℕ) (e₃ : n ≡ word s 4) where
            -- a body that is not n and two rows of n
            pub other_body : (length s - 4 ≡ 2 + 4 * n → ⊥) → 3 ≡ record_refused s
            unfolding record_refused wrong_body
            other_body h =
                simp (
                  right-length,
                  right_kind,
                  le-ltb (length s - 4) 2 h₅,
                  ne_eqb (length s - 4) (2 + 4 * word s 4) (λ x. h (x ∙ ap (λ z. 2 + 4 * z) (sym e₃))),
                )

            -- a whole record
            pub whole : length s - 4 ≡ 2 + 4 * n → 0 ≡ record_refused s
            unfolding record_refused wrong_body
            whole h =
                simp (
                  right-length,
                  right_kind,
                  le-ltb (length s - 4) 2 h₅,
                  eq-eqb (length s - 4) (2 + 4 * word s 4) (h ∙ ap (λ z. 2 + 4 * z) e₃),
                )

-- a number 0 that tests choose: none of them holds
all_false : (a b c : Bool) → ◌≡◌ {A = ℕ} (pick a 1 (pick b 2 (pick c 3 0))) 0 → (a ≡ false) × (c ≡ false)
all_false true b c h = absurd (omega (arith, h))
all_false false true c h = absurd (omega (arith, h))
all_false false false true h = absurd (omega (arith, h))
all_false false false false h = (refl, refl)

-- what a record that is not refused measures
pub record Whole (s : List ℕ) : Type 0 where
  pub long : 6 ≤ length s
  pub short : length s ≤ 1030
  pub exact : length s ≡ 6 + 4 * word s 4

-- a record that is not refused has n and two rows of n
pub whole_record : (s : List ℕ) → 0 ≡ record_refused s → Whole s
unfolding record_refused wrong_length wrong_body
whole_record s e₀ =
    let p = all_false (wrong_length s) (wrong_kind s) (wrong_body s) (sym e₀) in
    let l = or_false (ltb (length s) 4) _ p.0 in
    let m = or_false (ltb 1030 (length s)) _ l.1 in
    let b = or_false (ltb (length s - 4) 2) _ p.1 in
    let e = eqb-true (length s - 4) (2 + 4 * word s 4) (not-false _ b.1) in
    let g = ltb-false (length s) 4 l.0 in
    let k = ltb-false (length s - 4) 2 b.0 in
    record { long = omega arith; short = ltb-false 1030 (length s) m.0; exact = omega arith }

module _ (s : List ℕ) where
  -- the number is one of the table
  pub record_within : record_refused s ≤ 24
  unfolding record_refused
  record_within = search (rules, pick_within) depth 12

  -- and the answer has it
  pub numbered : number_of (record_read s) ≡ record_refused s
  unfolding record_read
  numbered = number_answer _ _ record_within

  -- and the table's columns: as many as the record says, none on refusal
  pub columns_by : (r : Result ℕ Refusal) → r ≡ record_read s → columns r ≡ if_accepted (number_of r) (word s 4) 0
  unfolding record_read
  columns_by r e =
      ap columns e ∙ figures_answer 0 (record_refused s) (word s 4)
      ∙ ap (λ (k : ℕ). if_accepted k (word s 4) 0) (sym numbered ∙ sym (ap number_of e))

  -- a refusal, from its number
  pub refused_is : (r : Refusal) → number r ≡ record_refused s → Err r ≡ record_read s
  unfolding record_read
  refused_is r e = refused_by_number (record_refused s) (word s 4) r e

  -- a channel, where the number is 0
  pub channel_is : (n : ℕ) → 0 ≡ record_refused s → n ≡ word s 4 → Ok n ≡ record_read s
  unfolding record_read
  channel_is n e f = accepted_is (record_refused s) (word s 4) n (sym e) f
