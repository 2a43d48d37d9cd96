-- Where a number stands: the shift by 6 that finds its word and the mask of 63 that finds its bit are the quotient and the rest by 64. This holds for every number, so for each of 0 to 511. In the logic `k >> 6` is `k / 2 ^ 6`, and `k & 63` is `bit_and k 63`.
use mathlib.Core.Path.{◌≡◌, refl}
use Prim.Native.Nat.{ℕ, ◌/◌, ◌%◌, ◌^◌}
use lib.Bits.{bit_and, and_mask}

pub shift_quotient : (k : ℕ) → k / 2 ^ 6 ≡ k / 64
shift_quotient k = refl

pub mask_rest : (k : ℕ) → bit_and k 63 ≡ k % 64
mask_rest k = and_mask k 6
