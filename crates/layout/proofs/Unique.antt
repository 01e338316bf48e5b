-- Any two answers that the contract of `lay_out` allows are equal, and so are the tables that they leave.
-- Assumes nothing.
use mathlib.Core.Path.{◌≡◌, sym, ◌∙◌}
use mathlib.Core.List.{List}
use Prim.Native.Nat.{ℕ}
use Rattle.std.specs.Prelude.{Option}
use Rattle.layout.specs.Laid.{LayAnswer, laid, unfit}

pub lay_answer_unique : (F n m : ℕ) (units before : List ℕ) {r q : Option ℕ} {after other : List ℕ} → LayAnswer F n m units before r after → LayAnswer F n m units before q other
    → (r ≡ q) × (after ≡ other)
lay_answer_unique F n m units before (laid f e d) (laid g u v) = (e ∙ sym u, d ∙ sym v)
lay_answer_unique F n m units before (laid f e d) (unfit g u v) = absurd (g f)
lay_answer_unique F n m units before (unfit f e d) (laid g u v) = absurd (f g)
lay_answer_unique F n m units before (unfit f e d) (unfit g u v) = (e ∙ sym u, d ∙ sym v)
