-- Any two answers that the contract of `read_set` allows are equal, and so are the lists that they leave.
-- Assumes nothing.
use mathlib.Core.Path.{◌≡◌, sym, ◌∙◌}
use mathlib.Core.List.{List}
use Prim.Native.Nat.{ℕ}
use Rattle.setline.specs.ReadSet.{ReadSet, read, refused}
use Rattle.std.specs.Prelude.{Option}
use Rattle.setline.specs.declared.Header.{Header}

pub read_set_unique : (l b₀ m₀ : List ℕ) {r q : Option Header} {b c m k : List ℕ} → ReadSet l b₀ m₀ r b m → ReadSet l b₀ m₀ q c k → (r ≡ q) × (b ≡ c) × (m ≡ k)
read_set_unique l b₀ m₀ (read f e d g) (read h u v w) = (e ∙ sym u, d ∙ sym v, g ∙ sym w)
read_set_unique l b₀ m₀ (read f e d g) (refused h u v w) = absurd (h f)
read_set_unique l b₀ m₀ (refused f e d g) (read h u v w) = absurd (f h)
read_set_unique l b₀ m₀ (refused f e d g) (refused h u v w) = (e ∙ sym u, d ∙ sym v, g ∙ sym w)
