-- Document 01, "Mask: 16 bits, bit j for core j", and the group of answer 7, "bit i for task i": a set of numbers is one number.
-- Assumes nothing.
use Rattle.std.specs.Prelude.{ℕ, zero, suc, ◌*◌, ◌/◌, ◌%◌, ◌^◌}
use Rattle.std.specs.Int.Bits.{bit_or}
use Rattle.rules.specs.Sum.{sum_to}

-- 1 if i is in the set s, else 0: bit i of s
unfoldable pub has : ℕ → ℕ → ℕ
has s i = (s / 2 ^ i) % 2

-- the number of members below k
abbrev pub members : ℕ → ℕ → ℕ
members k s = sum_to k (has s)

-- "the union of its masks": all masks of the tasks below n that are in the group g
unfoldable pub union : ℕ → (ℕ → ℕ) → ℕ → ℕ
union zero mask g = 0
union (suc n) mask g = bit_or (union n mask g) (has g n * mask n)
