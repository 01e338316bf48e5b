-- Laws on each way out of the writing of an answer's line, and what a caller has whose output has room.
-- Assumes nothing.
use mathlib.Core.Path.{◌≡◌, refl, ◌∙◌, ap}
use mathlib.Core.List.{List, ◌++◌}
use Prim.Native.Nat.{ℕ, ◌*◌, ◌<◌, ◌≤◌}
use native.Mathlib.Omega.{arith}
use lib.ListN.{length, drop}
use Rattle.rules.specs.Piece.{first_pieces}
use Rattle.rules.specs.Line.{answer_line}
use Rattle.rules.specs.declared.Answer.{Answer}
use Rattle.fields.specs.Pasted.{pasted}
use Rattle.fields.proofs.PastedLaws.{pasted_front}
use Rattle.answerline.specs.Put.{Room, PutAnswer, put, refused}

module _ (a : Answer) (t : List ℕ) (n : ℕ) (o : List ℕ) where
  pub output_short : length o < 1906 → PutAnswer a t n o 0 o
  output_short h = refused (λ (room : Room t n o). no_room room.output) refl refl
    where
      no_room : 1906 ≤ length o → ⊥
      no_room g = omega (arith, h)

  pub pieces_many : 95 < n → PutAnswer a t n o 0 o
  pieces_many h = refused (λ (room : Room t n o). no_room room.few) refl refl
    where
      no_room : n ≤ 95 → ⊥
      no_room g = omega (arith, h)

  pub table_short : length t < 4 * n → PutAnswer a t n o 0 o
  table_short h = refused (λ (room : Room t n o). no_room room.held) refl refl
    where
      no_room : 4 * n ≤ length t → ⊥
      no_room g = omega (arith, h)

  pub line_put : (r : ℕ) (x : List ℕ) → Room t n o → x ≡ pasted o 0 (answer_line a (first_pieces t n)) → r ≡ length (answer_line a (first_pieces t n)) → PutAnswer a t n o r x
  line_put r x room e g = put room (answer_line a (first_pieces t n)) refl g (e ∙ pasted_front o (answer_line a (first_pieces t n)))

-- an answer's line at the front of the output, which has room for it
module _ (a : Answer) (t : List ℕ) (n : ℕ) (o : List ℕ) (r : ℕ) (x : List ℕ) (long : 1906 ≤ length o) (few : n ≤ 95) (held : 4 * n ≤ length t) where
  pub was_put : PutAnswer a t n o r x → (r ≡ length (answer_line a (first_pieces t n))) × (x ≡ answer_line a (first_pieces t n) ++ drop (length (answer_line a (first_pieces t n))) o)
  was_put (put room line e g h) = (g ∙ ap length e, h ∙ ap (λ (z : List ℕ). z ++ drop (length z) o) e)
  was_put (refused bar g h) = absurd (bar (record { output = long; few = few; held = held }))
