-- A job has one finish, a list of jobs has one list of finishes, and WalkAnswer allows one answer and one list for each input.
-- Assumes nothing.
use mathlib.Core.Path.{◌≡◌, sym, ◌∙◌, ap}
use mathlib.Core.List.{List}
use Prim.Native.Nat.{ℕ, zero, suc, ◌+◌, ◌-◌, ◌≤◌, ◌<◌, max}
use native.Mathlib.Decide.{dec_lt}
use native.Mathlib.Omega.{arith}
use lib.ListN.{length, get_or, drop}
use lib.Seq.{ext_get_or, get_or-drop}
use Rattle.rules.specs.Tests.{Tested, refused, passed}
use Rattle.rules.specs.Piece.{Piece, pieces_of}
use Rattle.rules.specs.Finish.{Finish, Finishes, begin_of}
use Rattle.rules.specs.Walked.{WalkAnswerAt}
use Rattle.rules.specs.declared.Answer.{Answer}

module _ (F : ℕ) (ps : List Piece) (task : ℕ) where
  pub finish_unique : (begin job d e : ℕ) → Finish F ps task begin job d → Finish F ps task begin job e → d ≡ e
  finish_unique begin job d e f g = omega (arith, f.least e g.not_before g.enough, g.least d f.not_before f.enough)

  pub finishes_unique : (count : ℕ) (release job f g : ℕ → ℕ) → Finishes F ps task count release job f → Finishes F ps task count release job g
      → (k : ℕ) → k < count → f k ≡ g k
  unfolding begin_of
  finishes_unique count release job f g p q zero h = finish_unique (release zero) (job zero) (f zero) (g zero) (p zero h) (q zero h)
  finishes_unique count release job f g p q (suc k) h =
      finish_unique (max (release (suc k)) (f k)) (job (suc k)) (f (suc k)) (g (suc k)) (p (suc k) h)
      (rw (finishes_unique count release job f g p q k (omega arith)) (q (suc k) h))

-- two lists of one length that agree below n and from n on
same_list : (n : ℕ) (x y : List ℕ) → length x ≡ length y → ((k : ℕ) → k < n → get_or x k 0 ≡ get_or y k 0) → drop n x ≡ drop n y → x ≡ y
same_list n x y l f e =
    ext_get_or 0 x y l (λ i h. elim (dec_lt i n) [ yes b ↦ f i b | no b ↦ later i (omega arith) ])
  where
    later : (i : ℕ) → n ≤ i → get_or x i 0 ≡ get_or y i 0
    later i h =
        ap (λ (k : ℕ). get_or x k 0) (split h) ∙ sym (get_or-drop n x (i - n) 0) ∙ ap (λ (s : List ℕ). get_or s (i - n) 0) e ∙ get_or-drop n y (i - n) 0
        ∙ ap (λ (k : ℕ). get_or y k 0) (sym (split h))
      where
        split : n ≤ i → i ≡ n + (i - n)
        split h = omega arith

module _ (F : ℕ) (table : List ℕ) (task : ℕ) (releases jobs before : List ℕ) (r s : Answer) (x y : List ℕ) where
  pub walked_unique : (t : Tested) → WalkAnswerAt t F table task releases jobs before r x → WalkAnswerAt t F table task releases jobs before s y → (r ≡ s) × (x ≡ y)
  walked_unique (refused a) p q = (p.answer ∙ sym q.answer, p.kept ∙ sym q.kept)
  walked_unique passed p q = (
    p.answer ∙ sym q.answer,
    same_list (length releases) x y (p.size ∙ sym q.size)
        (finishes_unique F (pieces_of table) task (length releases) (λ k. get_or releases k 0) (λ k. get_or jobs k 0) (λ k. get_or x k 0) (λ k. get_or y k 0) p.finishes q.finishes)
        (p.kept ∙ sym q.kept),
  )
