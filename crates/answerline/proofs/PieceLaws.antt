-- Laws on the lines of pieces and of answers, as they are written.
-- Assumes nothing.
use mathlib.Core.Path.{◌≡◌, refl, sym, subst, ◌∙◌, ap}
use mathlib.Core.List.{List, [], ◌∷◌, ◌++◌, append_assoc, append-nil}
use Prim.Native.Nat.{ℕ, ◌+◌, ◌-◌, ◌*◌, ◌≤◌, ◌<◌}
use native.Mathlib.Numerals.{add-one, unary_clauses}
use native.Mathlib.Omega.{arith}
use lib.ListN.{length, get_or, take, drop, length-append, length-drop, get_or-append}
use Rattle.std.proofs.Common.{add-zero}
use lib.Seq.{length-take-le, drop_at, drop-drop}
use Rattle.std.proofs.lemmas.List.{get_or-take, get_or-drop}
use Rattle.rules.specs.Piece.{Piece, piece_at, first_pieces}
use Rattle.rules.specs.Line.{bytes, piece_line, piece_lines}
use Rattle.fields.specs.Pasted.{pasted}
use Rattle.rules.proofs.Numbers.{length_first}
use Rattle.fields.proofs.PastedLaws.{length_digits, pasted_twice, pasted_none}

four : (o : List ℕ) (p : ℕ) (a b c d : List ℕ) → length a ≡ 2 → length b ≡ 2 → length c ≡ 8 → p + 20 ≤ length o
    → pasted (pasted (pasted (pasted o p a) (p + 2) b) (p + 4) c) (p + 12) d ≡ pasted o p (a ++ b ++ c ++ d)
four o p a b c d la lb lc h =
    ap (λ (x : List ℕ). pasted (pasted x (p + 4) c) (p + 12) d) (pasted_twice o p a (p + 2) b (omega arith) (omega arith))
    ∙ ap (λ (x : List ℕ). pasted x (p + 12) d) (pasted_twice o p (a ++ b) (p + 4) c (simp length-append (omega arith)) (omega arith))
    ∙ pasted_twice o p ((a ++ b) ++ c) (p + 12) d (simp length-append (omega arith)) (omega arith)

-- the four fields of a piece, one after another
pub piece_put : (o o₁ o₂ o₃ o₄ t : List ℕ) (at k a b c d p q r s : ℕ)
    → a ≡ get_or t (4 * k) 0 → b ≡ get_or t (4 * k + 1) 0 → c ≡ get_or t (4 * k + 2) 0 → d ≡ get_or t (4 * k + 3) 0
    → (o₁ ≡ pasted o at (bytes 1 a)) × (p ≡ at + 2 * 1) → (o₂ ≡ pasted o₁ p (bytes 1 b)) × (q ≡ p + 2 * 1)
    → (o₃ ≡ pasted o₂ q (bytes 4 c)) × (r ≡ q + 2 * 4) → (o₄ ≡ pasted o₃ r (bytes 4 d)) × (s ≡ r + 2 * 4)
    → at + 20 ≤ length o → (o₄ ≡ pasted o at (piece_line (piece_at t k))) × (s ≡ at + 20)
unfolding piece_line
piece_put o o₁ o₂ o₃ o₄ t at k a b c d p q r s ea eb ec ed e₁ e₂ e₃ e₄ h =
    let ep : p ≡ at + 2 = e₁.1 in
    let eq : q ≡ at + 4 = omega (arith, e₁.1, e₂.1) in
    let er : r ≡ at + 12 = omega (arith, eq, e₃.1) in (
      simp (e₄.0, e₃.0, e₂.0, e₁.0, ep, eq, er, ea, eb, ec, ed)
          (four o at (bytes 1 (get_or t (4 * k) 0)) (bytes 1 (get_or t (4 * k + 1) 0)) (bytes 4 (get_or t (4 * k + 2) 0)) (bytes 4 (get_or t (4 * k + 3) 0))
          (length_digits 2 _) (length_digits 2 _) (length_digits 8 _) h),
      omega (arith, er, e₄.1),
    )

-- the pieces of a table, one after another
pieces_snoc : (ps : List Piece) (p : Piece) → piece_lines (ps ++ (p ∷ [])) ≡ piece_lines ps ++ piece_line p
unfolding piece_lines
pieces_snoc [] p = append-nil (piece_line p)
pieces_snoc (q ∷ ps) p = simp (pieces_snoc ps p, append_assoc)

length_piece : (p : Piece) → length (piece_line p) ≡ 20
unfolding piece_line
length_piece p = simp (length-append, length_digits)

pub length_pieces : (ps : List Piece) → length (piece_lines ps) ≡ 20 * length ps
unfolding piece_lines
length_pieces [] = refl
length_pieces (p ∷ ps) = simp (length-append, length_piece, length_pieces ps, unary_clauses) (omega arith)

pub pieces_none : (o t : List ℕ) → o ≡ pasted o 6 (piece_lines (first_pieces t 0))
unfolding piece_lines first_pieces
pieces_none o t = sym (pasted_none o 6)

-- a piece's four numbers, as they are handed out from the front of what is left of the first p pieces
module _ (t : List ℕ) (p n : ℕ) (rest : List ℕ) (size : ℕ) (left : rest ≡ drop (4 * n) (take (4 * p) t)) (four : size ≡ 4) (held : 4 * p ≤ length t) where
  module _ (piece after : List ℕ) (split : rest ≡ piece ++ after) (long : length piece ≡ size) where
    chunk_lengths : length piece + length after ≡ 4 * p - 4 * n
    chunk_lengths = sym (length-append piece after) ∙ ap length (sym split ∙ left) ∙ length-drop (4 * n) (take (4 * p) t) ∙ ap (λ (k : ℕ). k - 4 * n) (length-take-le (4 * p) t held)

    pub chunk_before : n < p
    chunk_before = omega (arith, chunk_lengths, long, four)

    pub chunk_left : after ≡ drop (4 * (n + 1)) (take (4 * p) t)
    chunk_left = sym (drop_at piece after 4 (long ∙ four)) ∙ ap (drop 4) (sym split ∙ left) ∙ drop-drop 4 (4 * n) (take (4 * p) t) ∙ ap (λ (k : ℕ). drop k (take (4 * p) t)) (step n)
      where
        step : (n : ℕ) → 4 * n + 4 ≡ 4 * (n + 1)
        step n = omega arith

    read : (j : ℕ) → j < 4 → get_or piece j 0 ≡ get_or t (4 * n + j) 0
    read j h =
        sym (get_or-append piece after 0 j (omega (arith, long, four)))
        ∙ ap (λ (l : List ℕ). get_or l j 0) (sym split ∙ left)
        ∙ get_or-drop (4 * n) (take (4 * p) t) j 0
        ∙ get_or-take (4 * p) t (4 * n + j) 0 (omega (arith, chunk_before))

    pub chunk_piece : piece_at piece 0 ≡ piece_at t n
    chunk_piece = simp (read 0 (omega arith), read 1 (omega arith), read 2 (omega arith), read 3 (omega arith), add-zero)

  pub chunk_last : length rest < size → n ≤ p → n ≡ p
  chunk_last h g = omega (arith, four, length-drop (4 * n) (take (4 * p) t), length-take-le (4 * p) t held, ap length left)

pub pieces_more : (o₀ o q t : List ℕ) (i at e : ℕ) → (o ≡ pasted o₀ 6 (piece_lines (first_pieces t i))) × (at ≡ 6 + 20 * i) → 6 + 20 * i ≤ length o₀
    → (q ≡ pasted o at (piece_line (piece_at t i))) × (e ≡ at + 20) → (q ≡ pasted o₀ 6 (piece_lines (first_pieces t (i + 1)))) × (e ≡ 6 + 20 * (i + 1))
unfolding first_pieces
pieces_more o₀ o q t i at e same h g = (
  g.0
      ∙ ap (λ (x : List ℕ). pasted x at (piece_line (piece_at t i))) same.0
      ∙ pasted_twice o₀ 6 (piece_lines (first_pieces t i)) at (piece_line (piece_at t i)) (same.1 ∙ simp (length_pieces, length_first)) (omega (arith, same.1))
      ∙ simp (add-one, pieces_snoc),
  omega (arith, same.1, g.1),
)

-- one more piece of the first p
module _ (t : List ℕ) (p n : ℕ) (rest : List ℕ) (size : ℕ) (left : rest ≡ drop (4 * n) (take (4 * p) t)) (four : size ≡ 4) (held : 4 * p ≤ length t)
    (piece after : List ℕ) (split : rest ≡ piece ++ after) (long : length piece ≡ size) where
  pub chunk_more : (o₀ o q : List ℕ) (at e m size' : ℕ) → m ≡ n + 1 → size' ≡ size → o ≡ pasted o₀ 6 (piece_lines (first_pieces t n)) → at ≡ 6 + 20 * n → 6 + 20 * p ≤ length o₀
      → (q ≡ pasted o at (piece_line (piece_at piece 0))) × (e ≡ at + 20)
      → (size' ≡ 4) × (after ≡ drop (4 * m) (take (4 * p) t)) × (m ≤ p) × (q ≡ pasted o₀ 6 (piece_lines (first_pieces t m))) × (e ≡ 6 + 20 * m)
  chunk_more o₀ o q at e m size' next same put place room g =
      let before : n < p = chunk_before t p n rest size left four held piece after split long in
      let whole = pieces_more o₀ o q t n at e (put, place) (omega (arith, before, room)) (g.0 ∙ ap (λ (x : Piece). pasted o at (piece_line x)) (chunk_piece t p n rest size left four held piece after split long), g.1) in
      subst (λ (k : ℕ). (size' ≡ 4) × (after ≡ drop (4 * k) (take (4 * p) t)) × (k ≤ p) × (q ≡ pasted o₀ 6 (piece_lines (first_pieces t k))) × (e ≡ 6 + 20 * k)) (sym next)
      (same ∙ four, chunk_left t p n rest size left four held piece after split long, omega (arith, before), whole.0, whole.1)
