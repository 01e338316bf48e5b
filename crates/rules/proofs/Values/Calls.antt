-- The line call at its least output, and what a plan may not be, worked out by hand.
-- Assumes nothing.
use mathlib.Core.Path.{◌≡◌, refl, ◌∙◌, ap}
use mathlib.Core.List.{List, [], ◌∷◌, ◌++◌}
use Prim.Native.Nat.{ℕ}
use lib.ListN.{length, drop, replicate}
use Rattle.rules.specs.Line.{is_decimal, is_letter, is_digit, digit_value, digit_of, digits_at, digits, all_digits, well_written, line_widths, values_line, answer_rest, answer_line}
use Rattle.rules.specs.LineCall.{lent_table, LineAnswer, CallAnswer}
use Rattle.rules.specs.Plan.{at, PlannedBy}
use Rattle.rules.specs.Table.{cell_at}
use Rattle.rules.specs.declared.Planned.{Planned}
use Rattle.rules.proofs.Values.Loops.{square}

-- "it lends 95 pieces"
lent_value : lent_table ≡ replicate 380 0
unfolding lent_table
lent_value = refl

-- the empty line gets `0c`
bad_line : LineAnswer [] (48 ∷ 99 ∷ [])
unfolding well_written all_digits is_digit is_decimal is_letter digits_at digit_value answer_line line_widths values_line answer_rest digits digit_of
bad_line = refl

only_bad_line : (line : List ℕ) → LineAnswer [] line → line ≡ 48 ∷ 99 ∷ []
unfolding well_written all_digits is_digit is_decimal is_letter digits_at digit_value answer_line line_widths values_line answer_rest digits digit_of
only_bad_line line h = h

-- an output of 1,905 bytes, with a line that is not well written either: "tested before 12: it hands back 0 and writes nothing"
short_output : CallAnswer [] (replicate 1905 7) 0 (replicate 1905 7)
short_output = (refl, refl)

only_short_output : (r : ℕ) (after : List ℕ) → CallAnswer [] (replicate 1905 7) r after → (r ≡ 0) × (after ≡ replicate 1905 7)
only_short_output r after h = h

-- an output of 1,906 bytes: the line's two at the front, "the rest keeps what it held"
least_output : CallAnswer [] (replicate 1906 7) 2 (48 ∷ 99 ∷ replicate 1904 7)
least_output = record { line = 48 ∷ 99 ∷ []; answer = bad_line; bytes = refl; written = refl }

only_least_output : (r : ℕ) (after : List ℕ) → CallAnswer [] (replicate 1906 7) r after → (r ≡ 2) × (after ≡ 48 ∷ 99 ∷ replicate 1904 7)
only_least_output r after h =
    let e : h.line ≡ 48 ∷ 99 ∷ [] = only_bad_line h.line h.answer in (
      h.bytes ∙ ap length e,
      h.written ∙ ap (λ (l : List ℕ). l ++ drop (length l) (replicate 1906 7)) e,
    )

-- a list by its places, with nothing past the end
at_values : at (5 ∷ 6 ∷ []) 0 ∷ at (5 ∷ 6 ∷ []) 1 ∷ at (5 ∷ 6 ∷ []) 2 ∷ [] ≡ 5 ∷ 6 ∷ 0 ∷ []
at_values = refl

-- F 2, two tasks of two units on two cores: one unit each on each core is an allocation, but not loop-free
no_loops : (before : List ℕ) (r : Planned) (after : List ℕ) → PlannedBy 2 2 (2 ∷ 2 ∷ []) (0b11 ∷ 0b11 ∷ []) before r after (cell_at 2 (1 ∷ 1 ∷ 1 ∷ 1 ∷ [])) → ⊥
no_loops before r after p = p.loop_free square
