-- Laws on a decoded line: the line test, the fields before the tasks, and the tasks' fields.
-- Assumes nothing.
use mathlib.Core.Path.{◌≡◌, refl, sym, ◌∙◌, ap}
use mathlib.Core.Bool.{Bool, true, false, cond, ◌&&◌}
use mathlib.Core.List.{List, ◌++◌, append_assoc}
use Prim.Native.Nat.{ℕ, zero, suc, ◌+◌, ◌*◌, ◌%◌, ◌^◌, ◌≤◌, ◌<◌}
use native.Mathlib.Numerals.{add-one, unary_clauses}
use native.Mathlib.Omega.{arith}
use lib.Dec.{leb, eqb}
use lib.ListN.{length, get_or, drop, set, length-append}
use lib.Seq.{drop-cons, set_at}
use borrow.Author.Tests.{lt-leb, eqb-true, leb-true}
use Rattle.rules.specs.Line.{field, line_frame, line_cores, line_tasks, task_fields, all_digits, well_written}
use Rattle.fields.specs.Held.{held_field, past_field}
use Rattle.std.specs.Bool.{then_some}
use Rattle.std.specs.Prelude.{Option, Some, None}
use Rattle.setline.specs.Decoded.{Headed, line_header, has_header, header_of}
use Rattle.setline.specs.declared.Header.{Header}
use Rattle.sums.proofs.Both.{and_right}
use Rattle.fields.proofs.FieldLaws.{held_field_lem, held_past, digits_below}

-- the fields before the tasks, as a reader takes them one after another
module _ (l : List ℕ) (long : 12 ≤ length l) where
  pub head_frame : held_field l 0 4 ≡ line_frame l
  head_frame = held_field_lem l 0 4 (omega arith) (omega arith)

  past_frame : past_field l 0 4 ≡ 4
  past_frame = held_past l 0 4 (omega arith) (omega arith)

  pub head_cores : held_field l (past_field l 0 4) 1 ≡ line_cores l
  head_cores = rw past_frame (held_field_lem l 4 1 (omega arith) (omega arith))

  past_cores : past_field l (past_field l 0 4) 1 ≡ 5
  past_cores = rw past_frame (held_past l 4 1 (omega arith) (omega arith))

  pub head_tasks : held_field l (past_field l (past_field l 0 4) 1) 1 ≡ line_tasks l
  head_tasks = rw past_cores (held_field_lem l 5 1 (omega arith) (omega arith))

  pub frame_fits : held_field l 0 4 < 2 ^ 32
  frame_fits = rw head_frame (digits_below l 0 8)

  pub cores_fits : held_field l (past_field l 0 4) 1 < 256
  cores_fits = rw head_cores (digits_below l 8 2)

  pub tasks_fits : held_field l (past_field l (past_field l 0 4) 1) 1 < 256
  tasks_fits = rw head_tasks (digits_below l 10 2)

-- the fields of the task that begins at byte p
module _ (l : List ℕ) (p : ℕ) (long : 2 * (p + 6) ≤ length l) where
  pub task_budget : held_field l p 4 ≡ field l p 4
  task_budget = held_field_lem l p 4 (omega arith) (omega arith)

  past_budget : past_field l p 4 ≡ p + 4
  past_budget = held_past l p 4 (omega arith) (omega arith)

  pub task_mask : held_field l (past_field l p 4) 2 ≡ field l (p + 4) 2
  task_mask = rw past_budget (held_field_lem l (p + 4) 2 (omega arith) (omega arith))

  pub budget_fits : held_field l p 4 < 2 ^ 32
  budget_fits = rw task_budget (digits_below l (2 * p) 8)

  pub mask_fits : held_field l (past_field l p 4) 2 < 2 ^ 16
  mask_fits = rw task_mask (digits_below l (2 * (p + 4)) 4)

-- where task i's budget stands
pub budget_place : (l : List ℕ) (i v : ℕ) → v ≡ field l (6 + 6 * i) 4 → v ≡ field l (6 + 6 * i + 0) 4
budget_place l i v e = e ∙ ap (λ (p : ℕ). field l p 4) (still (6 + 6 * i))
  where
    still : (p : ℕ) → p ≡ p + 0
    still p = omega arith

-- one more task's field, at the front of a list
module _ (l : List ℕ) (p w : ℕ) where
  pub length_tasks : (n : ℕ) → length (task_fields l p w n) ≡ n
  unfolding task_fields
  length_tasks zero = refl
  length_tasks (suc n) = simp (length-append, length_tasks n, unary_clauses)

  pub tasks_none : (o : List ℕ) → o ≡ task_fields l p w 0 ++ drop 0 o
  unfolding task_fields
  tasks_none o = refl

  pub tasks_more : (o b : List ℕ) (i v : ℕ) → b ≡ task_fields l p w i ++ drop i o → i < length o → v ≡ field l (6 + 6 * i + p) w
      → set b i v ≡ task_fields l p w (i + 1) ++ drop (i + 1) o
  unfolding task_fields
  tasks_more o b i v e h g =
      ap (λ (x : List ℕ). set x i v) (e ∙ ap (λ (x : List ℕ). task_fields l p w i ++ x) (drop-cons o i 0 h))
      ∙ set_at (task_fields l p w i) (get_or o i 0) (drop (suc i) o) v i (length_tasks i)
      ∙ simp (add-one, g, append_assoc)

-- the line test, one law for each way out
module _ (l : List ℕ) where
  module _ (r : Bool) (test : r ≡ has_header l) where
    pub header_long : r ≡ true → 12 ≤ length l
    unfolding has_header
    header_long e = leb-true 12 (length l) (and_right (leb (length l) 3072 && all_digits l && eqb (length l % 2) 0) (leb 12 (length l)) (sym test ∙ e))

    pub no_header : r ≡ false → None ≡ header_of l
    unfolding has_header header_of well_written
    no_header e = simp (← test, e)

    pub line_last : (h : Header) (o : Option Header) → r ≡ true → Headed l h → o ≡ then_some (eqb (length l) (2 * (6 + 6 * h.tasks))) h → o ≡ header_of l
    unfolding has_header header_of well_written
    line_last h o t head e = e ∙ simp (← test, t) (of (eqb (length l) (2 * (6 + 6 * h.tasks))) ∙ ap (λ (k : ℕ). cond (eqb (length l) (2 * (6 + 6 * k))) (Some (line_header l)) None) head.tasks)
      where
        whole : h ≡ line_header l
        whole = simp (← head.frame, ← head.cores, ← head.tasks)

        of : (b : Bool) → then_some b h ≡ cond b (Some (line_header l)) None
        of true = ap Some whole
        of false = refl

pub line_long : (l : List ℕ) → 3072 < length l → false ≡ well_written l
unfolding well_written
line_long l h = simp (lt-leb (length l) 3072 h)

-- what a well-written line has
module _ (l : List ℕ) (e : well_written l ≡ true) where
  pub written_length : length l ≡ 2 * (6 + 6 * line_tasks l)
  unfolding well_written
  written_length =
      eqb-true (length l) (2 * (6 + 6 * line_tasks l))
      (and_right (leb (length l) 3072 && all_digits l && eqb (length l % 2) 0 && leb 12 (length l)) (eqb (length l) (2 * (6 + 6 * line_tasks l))) e)
