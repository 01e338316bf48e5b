-- Laws on what stands after an answer's number, as it is written: one for each arm of the match.
-- Assumes nothing.
use mathlib.Core.Path.{◌≡◌, refl, sym, ◌∙◌, ap}
use mathlib.Core.Logic.{◌⊎◌, inl, inr}
use mathlib.Core.List.{List, [], ◌++◌, append-nil}
use Prim.Native.Nat.{ℕ, ◌+◌, ◌*◌, ◌≤◌}
use native.Mathlib.Omega.{arith}
use lib.ListN.{length, length-append}
use Rattle.rules.specs.declared.Answer.{Answer}
use Rattle.rules.specs.declared.Answer.TheVariants.{Accepted, FrameLength, CoreCount, TaskCount, EmptyMask, Budget, ShortTable, Overloaded, NotTable, JobList, NoUnits, ShortFinishes, BadLine, MissingCore}
use Rattle.rules.specs.Piece.{Piece, first_pieces}
use Rattle.rules.specs.Answer.{number_of}
use Rattle.rules.specs.Line.{bytes, piece_lines, line_widths, values_line, answer_rest, answer_line}
use Rattle.fields.specs.Pasted.{pasted}
use Rattle.fields.proofs.PastedLaws.{length_digits, pasted_twice, pasted_none}
use Rattle.rules.proofs.Numbers.{length_first}
use Rattle.answerline.proofs.PieceLaws.{length_pieces}

-- o₁ is o with the rest l of a line, which ends at r
abbrev pub Ends : List ℕ → List ℕ → ℕ → List ℕ → Type 0
Ends o o₁ r l = (o₁ ≡ pasted o 2 l) × (r ≡ 2 + length l)

-- o₁ is o with v as w bytes at p, and the next field begins at q
abbrev Field : List ℕ → List ℕ → ℕ → ℕ → ℕ → ℕ → Type 0
Field o o₁ p w v q = (o₁ ≡ pasted o p (bytes w v)) × (q ≡ p + 2 * w)

-- two fields from the place 2 on
two : (o o₁ o₂ : List ℕ) (w v w' v' q r : ℕ) → 2 + 2 * w ≤ length o → Field o o₁ 2 w v q → Field o₁ o₂ q w' v' r → Ends o o₂ r (bytes w v ++ bytes w' v')
two o o₁ o₂ w v w' v' q r h f g = (
  g.0
      ∙ ap (λ (x : List ℕ). pasted x q (bytes w' v')) f.0
      ∙ pasted_twice o 2 (bytes w v) q (bytes w' v') (f.1 ∙ simp length_digits) (omega (arith, f.1)),
  simp (length-append, length_digits) (omega (arith, f.1, g.1)),
)

one : (o o₁ : List ℕ) (w v r : ℕ) → Field o o₁ 2 w v r → Ends o o₁ r (bytes w v)
one o o₁ w v r f = (f.0, f.1 ∙ simp length_digits)

module _ (a : Answer) where
  pub rest_accepted : (o o₁ o₂ t : List ℕ) (n q r : ℕ) → a ≡ Accepted → 1906 ≤ length o → Field o o₁ 2 2 n q → (o₂ ≡ pasted o₁ 6 (piece_lines (first_pieces t n))) × (r ≡ 6 + 20 * n)
      → Ends o o₂ r (answer_rest a (first_pieces t n))
  unfolding line_widths values_line answer_rest
  rest_accepted o o₁ o₂ t n q r e h f g = (
    g.0
        ∙ ap (λ (x : List ℕ). pasted x 6 (piece_lines (first_pieces t n))) f.0
        ∙ pasted_twice o 2 (bytes 2 n) 6 (piece_lines (first_pieces t n)) (simp length_digits) (omega arith)
        ∙ simp (e, length_first),
    simp (e, length-append, length_digits, length_pieces, length_first) (omega (arith, g.1)),
  )

  pub rest_task : (o o₁ : List ℕ) (ps : List Piece) (task r : ℕ) → (a ≡ EmptyMask task) ⊎ (a ≡ Budget task) → Field o o₁ 2 1 task r → Ends o o₁ r (answer_rest a ps)
  unfolding line_widths values_line answer_rest
  rest_task o o₁ ps task r (inl e) f = simp (e, append-nil) (one o o₁ 1 task r f)
  rest_task o o₁ ps task r (inr e) f = simp (e, append-nil) (one o o₁ 1 task r f)

  pub rest_overloaded : (o o₁ o₂ : List ℕ) (ps : List Piece) (g c x q r : ℕ) → a ≡ Overloaded g c → x ≡ c → 1906 ≤ length o → Field o o₁ 2 8 g q → Field o₁ o₂ q 2 x r
      → Ends o o₂ r (answer_rest a ps)
  unfolding line_widths values_line answer_rest
  rest_overloaded o o₁ o₂ ps g c x q r e v h f s = simp (e, append-nil, ← v) (two o o₁ o₂ 8 g 2 x q r (omega arith) f s)

  pub rest_missing : (o o₁ o₂ : List ℕ) (ps : List Piece) (task core x q r : ℕ) → a ≡ MissingCore task core → x ≡ core → 1906 ≤ length o → Field o o₁ 2 1 task q → Field o₁ o₂ q 1 x r
      → Ends o o₂ r (answer_rest a ps)
  unfolding line_widths values_line answer_rest
  rest_missing o o₁ o₂ ps task core x q r e v h f s = simp (e, append-nil, ← v) (two o o₁ o₂ 1 task 1 x q r (omega arith) f s)

-- the other answers carry nothing on a line
rest_none : (a : Answer) (ps : List Piece) → (a ≡ Accepted → ⊥) → ((task : ℕ) → a ≡ EmptyMask task → ⊥) → ((task : ℕ) → a ≡ Budget task → ⊥)
    → ((g c : ℕ) → a ≡ Overloaded g c → ⊥) → ((task core : ℕ) → a ≡ MissingCore task core → ⊥) → answer_rest a ps ≡ []
unfolding line_widths values_line answer_rest
rest_none Accepted ps n₀ n₄ n₅ n₇ n₁₃ = absurd (n₀ refl)
rest_none FrameLength ps n₀ n₄ n₅ n₇ n₁₃ = refl
rest_none CoreCount ps n₀ n₄ n₅ n₇ n₁₃ = refl
rest_none TaskCount ps n₀ n₄ n₅ n₇ n₁₃ = refl
rest_none (EmptyMask task) ps n₀ n₄ n₅ n₇ n₁₃ = absurd (n₄ task refl)
rest_none (Budget task) ps n₀ n₄ n₅ n₇ n₁₃ = absurd (n₅ task refl)
rest_none ShortTable ps n₀ n₄ n₅ n₇ n₁₃ = refl
rest_none (Overloaded g c) ps n₀ n₄ n₅ n₇ n₁₃ = absurd (n₇ g c refl)
rest_none NotTable ps n₀ n₄ n₅ n₇ n₁₃ = refl
rest_none (JobList job) ps n₀ n₄ n₅ n₇ n₁₃ = refl
rest_none (NoUnits job) ps n₀ n₄ n₅ n₇ n₁₃ = refl
rest_none ShortFinishes ps n₀ n₄ n₅ n₇ n₁₃ = refl
rest_none BadLine ps n₀ n₄ n₅ n₇ n₁₃ = refl
rest_none (MissingCore task core) ps n₀ n₄ n₅ n₇ n₁₃ = absurd (n₁₃ task core refl)

pub rest_other : (a : Answer) (o : List ℕ) (ps : List Piece) → (a ≡ Accepted → ⊥) → ((task : ℕ) → a ≡ EmptyMask task → ⊥) → ((task : ℕ) → a ≡ Budget task → ⊥)
    → ((g c : ℕ) → a ≡ Overloaded g c → ⊥) → ((task core : ℕ) → a ≡ MissingCore task core → ⊥) → Ends o o 2 (answer_rest a ps)
rest_other a o ps n₀ n₄ n₅ n₇ n₁₃ = simp (rest_none a ps n₀ n₄ n₅ n₇ n₁₃) (sym (pasted_none o 2), refl)

-- the number and the rest
pub answer_put : (a : Answer) (ps : List Piece) (o o₁ o₂ : List ℕ) (n m q r : ℕ) → n ≡ number_of a → m ≡ n → 1906 ≤ length o → Field o o₁ 0 1 m q → Ends o₁ o₂ r (answer_rest a ps)
    → (o₂ ≡ pasted o 0 (answer_line a ps)) × (r ≡ length (answer_line a ps))
unfolding answer_line
answer_put a ps o o₁ o₂ n m q r e f h e₁ g = (
  g.0 ∙ ap (λ (x : List ℕ). pasted x 2 (answer_rest a ps)) e₁.0 ∙ pasted_twice o 0 (bytes 1 m) 2 (answer_rest a ps) (simp length_digits) (omega arith) ∙ simp (f, e),
  g.1 ∙ simp (length-append, length_digits),
)
