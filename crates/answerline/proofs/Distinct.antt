-- No two answers share a line: an answer whose values fit is read back from its line, and so is an accepted set's table.
-- Assumes nothing.
use mathlib.Core.Path.{◌≡◌, refl, sym, ◌∙◌, ap}
use mathlib.Core.Bool.{cond}
use mathlib.Core.List.{List, [], ◌∷◌, ◌++◌, append_assoc}
use Prim.Native.Nat.{ℕ, zero, suc, ◌+◌, ◌^◌, ◌<◌}
use native.Mathlib.Omega.{arith}
use lib.Dec.{eqb}
use lib.ListN.{length, length-append}
use Rattle.rules.specs.Piece.{Piece}
use Rattle.rules.specs.Answer.{number_of}
use Rattle.rules.specs.Line.{digits_at, digits, bytes, piece_line, piece_lines, line_widths, values_line, answer_rest, answer_line}
use Rattle.rules.specs.declared.Answer.{Answer}
use Rattle.rules.specs.declared.Answer.TheVariants.{Accepted, FrameLength, CoreCount, TaskCount, EmptyMask, Budget, ShortTable, Overloaded, NotTable, JobList, NoUnits, ShortFinishes, BadLine, MissingCore}
use Rattle.answerline.specs.Shown.{PieceFits, PiecesFit, Shown}
use Rattle.fields.proofs.PastedLaws.{length_digits}
use Rattle.fields.proofs.ReadBack.{digits_read}

at_read : (l xs ys : List ℕ) (p c v : ℕ) → l ≡ xs ++ (digits c v ++ ys) → length xs ≡ p → v < 16 ^ c → digits_at l p c ≡ v
at_read l xs ys p c v e g h = simp (e, ← g) (digits_read c v xs ys h)

-- a line's first byte is the answer's number
pub number_back : (a : Answer) (ps : List Piece) → digits_at (answer_line a ps) 0 2 ≡ number_of a
unfolding answer_line
number_back a ps = at_read (answer_line a ps) [] (answer_rest a ps) 0 2 (number_of a) refl refl (small a)
  where
    small : (a : Answer) → number_of a < 256
    small Accepted = omega arith
    small FrameLength = omega arith
    small CoreCount = omega arith
    small TaskCount = omega arith
    small (EmptyMask task) = omega arith
    small (Budget task) = omega arith
    small ShortTable = omega arith
    small (Overloaded group cores) = omega arith
    small NotTable = omega arith
    small (JobList job) = omega arith
    small (NoUnits job) = omega arith
    small ShortFinishes = omega arith
    small BadLine = omega arith
    small (MissingCore task core) = omega arith

-- what 4 and 13 carry
pub empty_back : (task : ℕ) (ps : List Piece) → Shown (EmptyMask task) ps → digits_at (answer_line (EmptyMask task) ps) 2 2 ≡ task
unfolding answer_line line_widths values_line answer_rest
empty_back task ps s = at_read (answer_line (EmptyMask task) ps) (bytes 1 4) [] 2 2 task refl (length_digits 2 4) s

pub missing_back : (task core : ℕ) (ps : List Piece) → Shown (MissingCore task core) ps
    → (digits_at (answer_line (MissingCore task core) ps) 2 2 ≡ task) × (digits_at (answer_line (MissingCore task core) ps) 4 2 ≡ core)
unfolding answer_line line_widths values_line answer_rest
missing_back task core ps s = (
  at_read (answer_line (MissingCore task core) ps) (bytes 1 13) (bytes 1 core ++ []) 2 2 task refl (length_digits 2 13) s.0,
  at_read (answer_line (MissingCore task core) ps) (bytes 1 13 ++ bytes 1 task) [] 4 2 core (simp append_assoc) (simp (length-append, length_digits)) s.1,
)

-- the answer of a line, by its number
answer_with : ℕ → List ℕ → Answer
answer_with n l =
    cond (eqb n 0) Accepted
    (cond (eqb n 1) FrameLength
    (cond (eqb n 2) CoreCount
    (cond (eqb n 3) TaskCount
    (cond (eqb n 4) (EmptyMask (digits_at l 2 2))
    (cond (eqb n 5) (Budget (digits_at l 2 2))
    (cond (eqb n 6) ShortTable
    (cond (eqb n 7) (Overloaded (digits_at l 2 16) (digits_at l 18 4))
    (cond (eqb n 8) NotTable
    (cond (eqb n 11) ShortFinishes
    (cond (eqb n 12) BadLine (MissingCore (digits_at l 2 2) (digits_at l 4 2))))))))))))

answer_back : (a : Answer) (ps : List Piece) → Shown a ps → answer_with (number_of a) (answer_line a ps) ≡ a
unfolding answer_with answer_line line_widths values_line answer_rest
answer_back Accepted ps s = refl
answer_back FrameLength ps s = refl
answer_back CoreCount ps s = refl
answer_back TaskCount ps s = refl
answer_back (EmptyMask task) ps s = ap EmptyMask (empty_back task ps s)
answer_back (Budget task) ps s = ap Budget (at_read (answer_line (Budget task) ps) (bytes 1 5) [] 2 2 task refl (length_digits 2 5) s)
answer_back ShortTable ps s = refl
answer_back (Overloaded group cores) ps s =
    simp (
      at_read (answer_line (Overloaded group cores) ps) (bytes 1 7) (bytes 2 cores ++ []) 2 16 group refl (length_digits 2 7) s.0,
      at_read (answer_line (Overloaded group cores) ps) (bytes 1 7 ++ bytes 8 group) [] 18 4 cores (simp append_assoc) (simp (length-append, length_digits)) s.1,
    )
answer_back NotTable ps s = refl
answer_back (JobList job) ps s = absurd s
answer_back (NoUnits job) ps s = absurd s
answer_back ShortFinishes ps s = refl
answer_back BadLine ps s = refl
answer_back (MissingCore task core) ps s = simp ((missing_back task core ps s).0, (missing_back task core ps s).1)

-- the pieces of a line from the place p on
pieces_from : List ℕ → ℕ → ℕ → List Piece
pieces_from l p zero = []
pieces_from l p (suc n) =
    record { core = digits_at l p 2; task = digits_at l (p + 2) 2; start = digits_at l (p + 4) 8; len = digits_at l (p + 12) 8 } ∷ pieces_from l (p + 20) n

module _ (xs ys : List ℕ) (p : Piece) (fits : PieceFits p) where
  abbrev whole : List ℕ
  whole = xs ++ (piece_line p ++ ys)

  piece_core : digits_at whole (length xs) 2 ≡ p.core
  unfolding piece_line
  piece_core = at_read whole xs (bytes 1 p.task ++ (bytes 4 p.start ++ (bytes 4 p.len ++ ys))) (length xs) 2 p.core (simp append_assoc) refl fits.core

  piece_task : digits_at whole (length xs + 2) 2 ≡ p.task
  unfolding piece_line
  piece_task = at_read whole (xs ++ bytes 1 p.core) (bytes 4 p.start ++ (bytes 4 p.len ++ ys)) (length xs + 2) 2 p.task (simp append_assoc) (simp (length-append, length_digits)) fits.task

  piece_start : digits_at whole (length xs + 4) 8 ≡ p.start
  unfolding piece_line
  piece_start =
      at_read whole (xs ++ (bytes 1 p.core ++ bytes 1 p.task)) (bytes 4 p.len ++ ys) (length xs + 4) 8 p.start (simp append_assoc) (simp (length-append, length_digits)) fits.start

  piece_len : digits_at whole (length xs + 12) 8 ≡ p.len
  unfolding piece_line
  piece_len =
      at_read whole (xs ++ (bytes 1 p.core ++ (bytes 1 p.task ++ bytes 4 p.start))) ys (length xs + 12) 8 p.len (simp append_assoc) (simp (length-append, length_digits)) fits.len

  piece_long : length (xs ++ piece_line p) ≡ length xs + 20
  unfolding piece_line
  piece_long = simp (length-append, length_digits)

pieces_back : (xs : List ℕ) (ps : List Piece) → PiecesFit ps → pieces_from (xs ++ piece_lines ps) (length xs) (length ps) ≡ ps
unfolding pieces_from piece_lines
pieces_back xs [] f = refl
pieces_back xs (p ∷ ps) f =
    simp (
      piece_core xs (piece_lines ps) p f.0,
      piece_task xs (piece_lines ps) p f.0,
      piece_start xs (piece_lines ps) p f.0,
      piece_len xs (piece_lines ps) p f.0,
      rest (pieces_back (xs ++ piece_line p) ps f.1),
    )
  where
    rest : pieces_from (xs ++ piece_line p ++ piece_lines ps) (length (xs ++ piece_line p)) (length ps) ≡ ps → pieces_from (xs ++ (piece_line p ++ piece_lines ps)) (length xs + 20) (length ps) ≡ ps
    rest e =
        ap (λ (l : List ℕ). pieces_from l (length xs + 20) (length ps)) (sym (append_assoc xs (piece_line p) (piece_lines ps)))
        ∙ ap (λ (k : ℕ). pieces_from (xs ++ piece_line p ++ piece_lines ps) k (length ps)) (sym (piece_long xs (piece_lines ps) p f.0))
        ∙ e

table_back : (ps : List Piece) → Shown Accepted ps → pieces_from (answer_line Accepted ps) 6 (digits_at (answer_line Accepted ps) 2 4) ≡ ps
unfolding answer_line line_widths values_line answer_rest
table_back ps s =
    ap (pieces_from (answer_line Accepted ps) 6) (at_read (answer_line Accepted ps) (bytes 1 0) (piece_lines ps) 2 4 (length ps) refl (length_digits 2 0) s.0)
    ∙ ap (λ (l : List ℕ). pieces_from l 6 (length ps)) (sym (append_assoc (bytes 1 0) (bytes 2 (length ps)) (piece_lines ps)))
    ∙ ap (λ (k : ℕ). pieces_from (bytes 1 0 ++ bytes 2 (length ps) ++ piece_lines ps) k (length ps)) (sym long)
    ∙ pieces_back (bytes 1 0 ++ bytes 2 (length ps)) ps s.1
  where
    long : length (bytes 1 0 ++ bytes 2 (length ps)) ≡ 6
    long = simp (length-append, length_digits)

-- "no two answers share a line": equal lines have the same answer, and an accepted set's line has one table
pub no_two_answers_share_a_line : (a b : Answer) (ps qs : List Piece) → Shown a ps → Shown b qs → answer_line a ps ≡ answer_line b qs → a ≡ b
no_two_answers_share_a_line a b ps qs s t e =
    sym (answer_back a ps s)
    ∙ ap (λ (l : List ℕ). answer_with (number_of a) l) e
    ∙ ap (λ (n : ℕ). answer_with n (answer_line b qs)) (sym (number_back a ps) ∙ ap (λ (l : List ℕ). digits_at l 0 2) e ∙ number_back b qs)
    ∙ answer_back b qs t

pub no_two_tables_share_a_line : (ps qs : List Piece) → Shown Accepted ps → Shown Accepted qs → answer_line Accepted ps ≡ answer_line Accepted qs → ps ≡ qs
no_two_tables_share_a_line ps qs s t e =
    sym (table_back ps s) ∙ ap (λ (l : List ℕ). pieces_from l 6 (digits_at l 2 4)) e ∙ table_back qs t
