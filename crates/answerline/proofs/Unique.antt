-- Any two answers that the contract of `put_answer` allows are equal, and so are the outputs that they leave.
-- Assumes nothing.
use mathlib.Core.Path.{◌≡◌, sym, ◌∙◌, ap}
use mathlib.Core.List.{List, ◌++◌}
use Prim.Native.Nat.{ℕ}
use lib.ListN.{length, drop}
use Rattle.rules.specs.declared.Answer.{Answer}
use Rattle.answerline.specs.Put.{PutAnswer, put, refused}

pub put_answer_unique : (a : Answer) (table : List ℕ) (pieces : ℕ) (o : List ℕ) {r q : ℕ} {x y : List ℕ} → PutAnswer a table pieces o r x → PutAnswer a table pieces o q y → (r ≡ q) × (x ≡ y)
put_answer_unique a table pieces o (put f l e d g) (put h k u v w) =
    let same = e ∙ sym u in (d ∙ ap length same ∙ sym v, g ∙ ap (λ (z : List ℕ). z ++ drop (length z) o) same ∙ sym w)
put_answer_unique a table pieces o (put f l e d g) (refused h v w) = absurd (h f)
put_answer_unique a table pieces o (refused f d g) (put h k u v w) = absurd (f h)
put_answer_unique a table pieces o (refused f d g) (refused h v w) = (d ∙ sym v, g ∙ sym w)
