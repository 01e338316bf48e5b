-- A set of numbers below a width with one member more. Document 01, "Mask: 16 bits, bit j for core j".
-- Assumes nothing.
use Rattle.std.specs.Prelude.{ℕ, ◌^◌, cond, ltb}
use Rattle.std.specs.Int.Bits.{bit_or}

-- the set s and i; a number past the width w adds nothing
unfoldable pub joined : ℕ → ℕ → ℕ → ℕ
joined w s i = cond (ltb i w) (bit_or s (2 ^ i)) s
