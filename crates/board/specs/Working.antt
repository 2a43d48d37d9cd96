-- What the private functions of the board promise each other. No promise of a public call rests on these.
use Rattle.std.specs.Prelude.{ℕ, zero, suc, ◌≡◌, ◌≤◌, ◌<◌, List, length, get_or, Option, Some, None}

-- the counts of the gaps from `first` to one before `last` are changed, each as R says of the count before and after, and no other
pub record Mended (first last : ℕ) (R : ℕ → ℕ → Type 0) (old new : List ℕ) : Type 0 where
  pub size : length new ≡ length old
  pub changed : (g : ℕ) → first ≤ g → g < last → R (get_or old g 0) (get_or new g 0)
  pub kept : (g : ℕ) → (first ≤ g → g < last → ⊥) → get_or new g 0 ≡ get_or old g 0

-- a column, counted from 1, 0 being none
abbrev pub column_by : ℕ → Option ℕ
column_by zero = None
column_by (suc k) = Some (suc k)
