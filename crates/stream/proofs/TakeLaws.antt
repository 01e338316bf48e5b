-- Laws on a line taken out of a chunk byte by byte, as the code takes it.
-- Assumes nothing.
use mathlib.Core.Path.{◌≡◌, refl, sym, ◌∙◌, ap}
use mathlib.Core.List.{List, [], ◌∷◌, ◌++◌, append_assoc}
use Prim.Native.Nat.{ℕ, zero, suc, ◌+◌, ◌-◌, ◌≤◌, ◌<◌, min}
use native.Mathlib.Decide.{dec_lt}
use native.Mathlib.Omega.{arith}
use native.Mathlib.Numerals.{add-one}
use lib.ListN.{length, get_or, take, drop, set, drop_of_length-le, length-set, length-drop, take-append-drop}
use lib.Seq.{drop-cons, drop-drop, set_out, take_all, take-suc-set, drop-set-lt}
use borrow.Author.Tests.{lt-ltb, le-ltb, eq-eqb, ne_eqb, eqb-true, eqb-false}
use Rattle.std.proofs.Common.{◌==◌, Some, None, add-zero}
use Rattle.std.specs.List.{position, position_or_len}
use Rattle.std.proofs.lemmas.Grind.{common_steps}
use Rattle.std.proofs.lemmas.List.Quantifiers.{position-Some}
use Rattle.std.proofs.lemmas.List.Sums.{fails_before_first}
use Rattle.stream.specs.Taking.{kept_count, kept_all, taking}
use Rattle.stream.specs.declared.line.Line.TheVariants.{Whole, Begun}

-- one byte more is kept where there is room
pub kept_room : (line : List ℕ) (len : ℕ) → len < length line → len + 1 ≡ kept_count line len
unfolding kept_count
kept_room line len h = simp (lt-ltb len (length line) h)

pub kept_full : (line : List ℕ) (len : ℕ) → length line ≤ len → len ≡ kept_count line len
unfolding kept_count
kept_full line len h = simp (le-ltb len (length line) h)

-- the first byte of what is left of the text
pub taking_feed : (b : ℕ) (t : List ℕ) (at : ℕ) (line : List ℕ) (len : ℕ) → b ≡ 10 → taking (b ∷ t) at line len ≡ (record { at = at + 1; line = Whole len }, line)
unfolding taking
taking_feed b t at line len e = simp (eq-eqb b 10 e)

pub taking_byte : (b : ℕ) (t : List ℕ) (at : ℕ) (line : List ℕ) (len : ℕ) → (b ≡ 10 → ⊥) → taking (b ∷ t) at line len ≡ taking t (at + 1) (set line len b) (kept_count line len)
unfolding taking
taking_byte b t at line len ne = simp (ne_eqb b 10 ne)

pub taking_none : (at : ℕ) (line : List ℕ) (len : ℕ) → taking [] at line len ≡ (record { at = at; line = Begun len }, line)
unfolding taking
taking_none at line len = refl

-- the bytes of a text before its line feed are kept one after another
pub kept_none : (t line : List ℕ) (len : ℕ) → length line ≤ len → (len, line) ≡ kept_all t line len
unfolding kept_all
kept_none [] line len h = refl
kept_none (b ∷ t) line len h =
    kept_none t line len h
    ∙ ap (λ (n : ℕ). kept_all t line n) (kept_full line len h)
    ∙ ap (λ (l : List ℕ). kept_all t l (kept_count line len)) (sym (set_out line len b h))

front_whole : (line : List ℕ) (len : ℕ) → ◌≡◌ {A = ℕ × List ℕ} (len + 0, take len line ++ drop (len + 0) line) (len, line)
front_whole line len = ap (λ (m : ℕ). (m, take len line ++ drop m line)) (add-zero len) ∙ ap (λ (l : List ℕ). (len, l)) (take-append-drop len line)

front_more : (b : ℕ) (t line : List ℕ) (len n : ℕ) → len < length line
    → ◌≡◌ {A = ℕ × List ℕ} (len + suc n, take len line ++ (b ∷ (take n t ++ drop (len + suc n) line)))
    (len + 1 + n, take (len + 1) (set line len b) ++ (take n t ++ drop (len + 1 + n) (set line len b)))
front_more b t line len n h =
    ap (λ (m : ℕ). (m, take len line ++ (b ∷ (take n t ++ drop m line)))) place
    ∙ ap (λ (l : List ℕ). (len + 1 + n, l))
    (sym (append_assoc (take len line) (b ∷ []) (take n t ++ drop (len + 1 + n) line))
    ∙ ap (λ (l : List ℕ). l ++ (take n t ++ drop (len + 1 + n) line)) (sym (ap (λ (m : ℕ). take m (set line len b)) (add-one len) ∙ take-suc-set line len b h))
    ∙ ap (λ (l : List ℕ). take (len + 1) (set line len b) ++ (take n t ++ l)) (sym (drop-set-lt (len + 1 + n) line len b (omega arith))))
  where
    place : len + suc n ≡ len + 1 + n
    place = omega arith

kept_front : (t line : List ℕ) (len n : ℕ) → n ≡ min (length t) (length line - len) → len ≤ length line → (len + n, take len line ++ (take n t ++ drop (len + n) line)) ≡ kept_all t line len
unfolding kept_all
kept_front [] line len n e h = ap (λ (m : ℕ). (len + m, take len line ++ (take m [] ++ drop (len + m) line))) none ∙ front_whole line len
  where
    none : n ≡ 0
    none = omega arith
kept_front (b ∷ t) line len n e h =
    elim (dec_lt len (length line)) [
      | yes y ↦
          ap (λ (m : ℕ). (len + m, take len line ++ (take m (b ∷ t) ++ drop (len + m) line))) (some y)
          ∙ front_more b t line len (n - 1) y
          ∙ kept_front t (set line len b) (len + 1) (n - 1) (simp length-set (omega arith)) (simp length-set (omega arith))
          ∙ ap (λ (m : ℕ). kept_all t (set line len b) m) (kept_room line len y)
      | no ny ↦
          ap (λ (m : ℕ). (len + m, take len line ++ (take m (b ∷ t) ++ drop (len + m) line))) (none (omega arith))
          ∙ front_whole line len
          ∙ kept_none (b ∷ t) line len (omega arith)
    ]
  where
    some : len < length line → n ≡ suc (n - 1)
    some y = omega arith

    none : length line ≤ len → n ≡ 0
    none y = omega arith

pub kept_copy : (t line copy : List ℕ) (len n k : ℕ) → n ≡ min (length t) (length line - len) → len ≤ length line → k ≡ n → copy ≡ take n t
    → (len + n, take len line ++ (copy ++ drop k (drop len line))) ≡ kept_all t line len
kept_copy t line copy len n k e h same c =
    ap (λ (l : List ℕ). (len + n, take len line ++ (l ++ drop k (drop len line)))) c
    ∙ ap (λ (l : List ℕ). (len + n, take len line ++ (take n t ++ l))) (drop-drop k len line ∙ ap (λ (m : ℕ). drop (len + m) line) same)
    ∙ kept_front t line len n e h

-- a text up to its first line feed
taking_past : (n : ℕ) (t : List ℕ) (at : ℕ) (line : List ℕ) (len : ℕ) → n ≤ length t → ((k : ℕ) → k < n → get_or t k 0 ≡ 10 → ⊥)
    → taking t at line len ≡ taking (drop n t) (at + n) (kept_all (take n t) line len).1 (kept_all (take n t) line len).0
unfolding kept_all
taking_past zero t at line len h ne = ap (λ (m : ℕ). taking t m line len) (sym (add-zero at))
taking_past (suc n) [] at line len h ne = absurd (omega arith)
taking_past (suc n) (b ∷ t) at line len h ne =
    taking_byte b t at line len (ne 0 (omega arith))
    ∙ taking_past n t (at + 1) (set line len b) (kept_count line len) (omega arith) (λ k l. ne (suc k) (omega arith))
    ∙ ap (λ (m : ℕ). taking (drop n t) m (kept_all (take n t) (set line len b) (kept_count line len)).1 (kept_all (take n t) (set line len b) (kept_count line len)).0) further
  where
    further : at + 1 + n ≡ at + suc n
    further = omega arith

-- what is left of a chunk from a place on, which may be past its end
pub rest_of : (chunk : List ℕ) (from m : ℕ) → m ≡ min from (length chunk) → take (length chunk - m) (drop m chunk) ≡ drop from chunk
rest_of chunk from m e =
    take_all (length chunk - m) (drop m chunk) (simp length-drop (omega arith))
    ∙ elim (dec_lt from (length chunk)) [
      | yes h ↦ ap (λ (n : ℕ). drop n chunk) (omega arith)
      | no nh ↦ drop_of_length-le chunk (omega arith) ∙ sym (drop_of_length-le chunk (omega arith))
    ]

module _ (t : List ℕ) (at : ℕ) (line line' : List ℕ) (len k : ℕ) where
  pub taken_whole : (n : ℕ) → position (λ b. b == 10) t ≡ Some n → (k, line') ≡ kept_all (take n t) line len → (record { at = at + n + 1; line = Whole k }, line') ≡ taking t at line len
  taken_whole n e q =
      let f = position-Some (λ b. b == 10) t n 0 e in
      sym (taking_past n t at line len (omega (arith, f.0)) (λ j l g. eqb-false (get_or t j 0) 10 (f.2 j l) g)
      ∙ ap (λ (u : List ℕ). taking u (at + n) (kept_all (take n t) line len).1 (kept_all (take n t) line len).0) (drop-cons t n 0 f.0)
      ∙ taking_feed (get_or t n 0) (drop (suc n) t) (at + n) (kept_all (take n t) line len).1 (kept_all (take n t) line len).0 (eqb-true (get_or t n 0) 10 f.1)
      ∙ ap (λ (w : ℕ × List ℕ). (record { at = at + n + 1; line = Whole w.0 }, w.1)) (sym q))

  pub taken_begun : position (λ b. b == 10) t ≡ None → (k, line') ≡ kept_all t line len → (record { at = at + length t; line = Begun k }, line') ≡ taking t at line len
  taken_begun e q =
      let past : length t ≤ position_or_len (λ b. b == 10) t = grind (arith, common_steps) in
      sym (taking_past (length t) t at line len (omega arith) (λ j l g. eqb-false (get_or t j 0) 10 (fails_before_first (λ b. b == 10) t j 0 (omega arith)) g)
      ∙ ap (λ (u : List ℕ). taking u (at + length t) (kept_all (take (length t) t) line len).1 (kept_all (take (length t) t) line len).0) (drop_of_length-le t (omega arith))
      ∙ taking_none (at + length t) (kept_all (take (length t) t) line len).1 (kept_all (take (length t) t) line len).0
      ∙ ap (λ (w : ℕ × List ℕ). (record { at = at + length t; line = Begun w.0 }, w.1)) (ap (λ (u : List ℕ). kept_all u line len) (take_all (length t) t (omega arith)) ∙ sym q))
