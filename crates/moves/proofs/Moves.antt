-- The loops of the move count, and its answers: one law for each return.
-- Assumes nothing.
use mathlib.Core.Path.{◌≡◌, refl, sym, ◌∙◌, ap, ap₂}
use mathlib.Core.Bool.{Bool, true, false, cond, not}
use mathlib.Core.List.{List, [], ◌∷◌}
use Prim.Native.Nat.{ℕ, zero, suc, ◌+◌, ◌*◌, ◌-◌, ◌^◌, ◌≤◌, ◌<◌}
use native.Mathlib.Decide.{ℕ_discrete}
use native.Mathlib.Numerals.{add-one}
use native.Mathlib.Omega.{arith}
use lib.Dec.{eqb}
use mir.Val.{bool_byte}
use lib.ListN.{length}
use Rattle.rules.specs.Sum.{sum_to}
use Rattle.rules.specs.Piece.{Piece, pieces_of, whole_pieces}
use Rattle.rules.specs.FrameTable.{frame_table}
use Rattle.rules.specs.Moves.{by_start, changes_after, changes, moves}
use Rattle.rules.specs.Tests.{bad_frame, bad_cores}
use Rattle.rules.specs.Check.{check_answer, moves_answer}
use Rattle.rules.specs.Answer.{number_of}
use Rattle.rules.specs.declared.Answer.{Answer}
use Rattle.rules.specs.declared.Answer.TheVariants.{Accepted, FrameLength, CoreCount, NotTable}
use Rattle.rules.specs.declared.Counted.{Counted}
use Rattle.sums.proofs.Inserted.{length_insert}
use Rattle.stretches.proofs.Readings.{Sound}
use Rattle.rules.proofs.Numbers.{length_first}
use Rattle.table.proofs.Reading.{table_reads}
use Rattle.table.proofs.Accepted.{check_accepted, frame_short}
use Rattle.std.specs.Prelude.{Option, None, Some, map, sum}
use Rattle.std.specs.List.{range_with_len}
use Rattle.std.proofs.lemmas.List.FromFn.{sum_by-map-range_with_len_more}
use Rattle.table.specs.Read.{piece_of, stretch_at}
use Rattle.table.specs.declared.Stretch.{Stretch}
use Rattle.moves.specs.Next.{next_piece}
use Rattle.moves.specs.Moved.{moved}
use Rattle.moves.specs.Framed.{Framed}
use Rattle.moves.proofs.Member.{by_start_own, by_start_other}
use Rattle.moves.proofs.Rest.{rest, next_rest, next_last, rest_whole, next_from, next_inside}

-- a task has no more pieces than the table
pub length_by_start : (t : ℕ) (ps : List Piece) → length (by_start t ps) ≤ length ps
unfolding by_start
length_by_start t [] = omega arith
length_by_start t (p ∷ ps) =
    elim (ℕ_discrete p.task t) [
      | yes e ↦ omega (arith, ap length (by_start_own t p ps e), length_insert p (by_start t ps), length_by_start t ps)
      | no e ↦ omega (arith, ap length (by_start_other t p ps e), length_by_start t ps)
    ]

one_at_most : (b : Bool) → cond b 0 1 ≤ 1
one_at_most true = omega arith
one_at_most false = omega arith

changes_after_le : (core : ℕ) (l : List Piece) → changes_after core l ≤ length l
unfolding changes_after
changes_after_le core [] = omega arith
changes_after_le core (p ∷ l) = omega (arith, one_at_most (eqb core p.core), changes_after_le p.core l)

changes_le : (l : List Piece) → changes l ≤ length l
unfolding changes
changes_le [] = omega arith
changes_le (p ∷ l) = omega (arith, changes_after_le p.core l)

-- the moves among these pieces, after a piece on this core or after none
abbrev pub changes_from : Option ℕ → List Piece → ℕ
changes_from None ps = changes ps
changes_from (Some core) ps = changes_after core ps

none : (n : ℕ) → n ≡ 0 + n
none n = omega arith

changes_first : (before : Option ℕ) (p : Piece) (ps : List Piece) → changes_from before (p ∷ ps) ≡ bool_byte (moved before p.core) + changes_after p.core ps
unfolding changes changes_after
changes_first None p ps = none (changes_after p.core ps)
changes_first (Some core) p ps = ap (λ (n : ℕ). n + changes_after p.core ps) (other (eqb core p.core))
  where
    other : (b : Bool) → ◌≡◌ {A = ℕ} (cond b 0 1) (bool_byte (not b))
    other true = refl
    other false = refl

changes_none : (before : Option ℕ) → changes_from before [] ≡ 0
unfolding changes changes_after
changes_none None = refl
changes_none (Some core) = refl

module _ (l : List ℕ) (task : ℕ) where
  -- the loop: what was counted, and what the pieces from here on add
  pub record Counting (core : Option ℕ) (from count : ℕ) : Type 0 where
    pub within : from ≤ 1000000
    pub sum : count + changes_from core (rest from (by_start task (pieces_of l))) ≡ changes (by_start task (pieces_of l))

module _ (l : List ℕ) (task : ℕ) (framed : Framed l) where
  -- a task's moves are fewer than the pieces that a table may have
  pub few_moves : changes (by_start task (pieces_of l)) ≤ 95
  few_moves =
      omega
      (arith, changes_le (by_start task (pieces_of l)), length_by_start task (pieces_of l), length_first l (whole_pieces l), (table_reads framed.frame framed.cores l framed.table).few)

  pub counting_none : Counting l task None 0 0
  counting_none =
      record {
        within = omega arith;
        sum = omega (arith, ap changes (rest_whole framed.frame framed.cores l task 0 framed.table));
      }

  module _ (core : Option ℕ) (from count k : ℕ) (p : Stretch) (now : Counting l task core from count) (next : Some k ≡ next_piece l task from) (at : p ≡ stretch_at l k) where
    reads : Sound framed.frame framed.cores (piece_of p)
    reads = rw at ((table_reads framed.frame framed.cores l framed.table).sound k (next_inside l task from k next))

    pub end_fits : p.start + p.len < 2 ^ 32
    end_fits = omega (arith, reads.end, framed.short)

    -- the piece ends later than where the search began
    pub counting_less : 1000000 - (p.start + p.len) < 1000000 - from
    counting_less = omega (arith, reads.end, reads.len, framed.short, late)
      where
        late : from ≤ p.start
        late = rw at (next_from l task from k next).1

    module _ (b : Bool) (r : ℕ) (move : b ≡ moved core p.core) (is : r ≡ bool_byte b) where
      added : count + r + changes_after p.core (rest (p.start + p.len) (by_start task (pieces_of l))) ≡ changes (by_start task (pieces_of l))
      added = rw (is, move) (omega (arith, step, now.sum))
        where
          step : changes_from core (rest from (by_start task (pieces_of l)))
              ≡ bool_byte (moved core p.core) + changes_after p.core (rest (p.start + p.len) (by_start task (pieces_of l)))
          step = rw at (ap (changes_from core) (next_rest framed.frame framed.cores l task from framed.table k next) ∙ changes_first core _ _)

      pub counting_fits : count + r < 2 ^ 64
      counting_fits = omega (arith, added, few_moves)

      pub counting_more : Counting l task (Some p.core) (p.start + p.len) (count + r)
      counting_more = record { within = omega (arith, reads.end, framed.short); sum = added }

  pub counting_done : (core : Option ℕ) (from count : ℕ) → Counting l task core from count → None ≡ next_piece l task from
      → (count ≡ changes (by_start task (pieces_of l))) × (count ≤ 95)
  counting_done core from count now e = (same, omega (arith, same, few_moves))
    where
      same : count ≡ changes (by_start task (pieces_of l))
      same =
          omega
          (arith, ap (changes_from core) (next_last framed.frame framed.cores l task from framed.table e) ∙ changes_none core, now.sum)

-- "The move count is the sum over tasks."
pub sum_range : (n : ℕ) (f : ℕ → ℕ) → sum (map f (range_with_len 0 n)) ≡ sum_to n f
unfolding sum_to
sum_range zero f = refl
sum_range (suc n) f = rw add-one at (sum_by-map-range_with_len_more (λ (a : ℕ). a) f 0 n n (omega arith)) ∙ ap (λ (a : ℕ). a + f n) (sum_range n f)

at_most : (n b : ℕ) (f : ℕ → ℕ) → ((i : ℕ) → f i ≤ b) → sum_to n f ≤ b * n
unfolding sum_to
at_most zero b f h = omega arith
at_most (suc n) b f h = omega (arith, at_most n b f h, h n)

module _ (l : List ℕ) where
  abbrev pub task_changes : ℕ → ℕ
  task_changes t = changes (by_start t (pieces_of l))

  pub moves_sum : sum (map task_changes (range_with_len 0 64)) ≡ moves (pieces_of l)
  unfolding moves
  moves_sum = sum_range 64 task_changes

  -- at most 95 a task
  pub moves_few : Framed l → sum (map task_changes (range_with_len 0 64)) < 2 ^ 64
  moves_few framed = omega (arith, sum_range 64 task_changes, at_most 64 95 task_changes (λ t. few_moves l t framed))

abbrev pub counted : Answer → ℕ → Counted
counted a n = record { answer = a; moves = n }

-- what the check answered
module _ (F m : ℕ) (l : List ℕ) where
  pub counted_refused : (a : Answer) → a ≡ check_answer F m l → (a ≡ Accepted → ⊥) → counted a 0 ≡ moves_answer F m l
  unfolding moves_answer check_answer
  counted_refused a checked refused =
      ap₂ counted checked (none (bad_frame F) (bad_cores m) (frame_table F m l) (moves (pieces_of l)) (λ e. refused (checked ∙ sym e)))
    where
      none : (b c f : Bool) (k : ℕ) → (Accepted ≡ cond b FrameLength (cond c CoreCount (cond f Accepted NotTable)) → ⊥) → ◌≡◌ {A = ℕ} 0 (cond b 0 (cond c 0 (cond f k 0)))
      none true c f k h = refl
      none false true f k h = refl
      none false false true k h = absurd (h refl)
      none false false false k h = refl

  module _ (accepted : Accepted ≡ check_answer F m l) where
    passed : (bad_frame F ≡ false) × (bad_cores m ≡ false) × (frame_table F m l ≡ true)
    passed = check_accepted F m l (ap number_of (sym accepted))

    pub counted_moves : (k : ℕ) → k ≡ moves (pieces_of l) → counted Accepted k ≡ moves_answer F m l
    unfolding moves_answer check_answer
    counted_moves k e = rw (passed.0, passed.1, passed.2, e)

    pub counted_framed : Framed l
    counted_framed = record { frame = F; cores = m; short = frame_short F passed.0; table = passed.2 }
