-- Laws on the readers of a header and of a task: each reader is known whole by the contract of the call that returned it, and its value is the field that the line holds.
-- Assumes nothing.
use mathlib.Core.Path.{◌≡◌}
use mathlib.Core.List.{List}
use Prim.Native.Nat.{ℕ, ◌+◌, ◌*◌, ◌^◌, ◌≤◌, ◌<◌}
use lib.ListN.{length}
use Rattle.std.specs.Borrow.{Bor}
use Rattle.fields.specs.Reading.{started, taken}
use Rattle.fields.specs.declared.reader.Reader.{Reader}
use Rattle.setline.specs.Decoded.{Headed, TaskAt}
use Rattle.setline.proofs.DecodeLaws.{head_frame, head_cores, head_tasks, frame_fits, cores_fits, tasks_fits, task_budget, task_mask, budget_fits, mask_fits}

-- the frame, the cores and the task count, from the line's front on
module _ (s : Bor (List ℕ)) (long : 12 ≤ length s.now) (r f c t : Reader) (front : r ≡ started s 0) (first : f ≡ taken r 4) (second : c ≡ taken f 1) (third : t ≡ taken c 1) where
  pub header_taken : Headed s.now (record { frame = f.value; cores = c.value; tasks = t.value })
  header_taken =
      record {
        frame = simp (first, front) (head_frame s.now long);
        cores = simp (second, first, front) (head_cores s.now long);
        tasks = simp (third, second, first, front) (head_tasks s.now long);
        few = simp (third, second, first, front) (tasks_fits s.now long);
      }

module _ (s : Bor (List ℕ)) (long : 12 ≤ length s.now) (r f c : Reader) (front : r ≡ started s 0) (first : f ≡ taken r 4) (second : c ≡ taken f 1) where
  pub frame_taken : f.value < 2 ^ 32
  frame_taken = simp (first, front) (frame_fits s.now long)

  pub cores_taken : c.value < 256
  cores_taken = simp (second, first, front) (cores_fits s.now long)

-- a task's budget and mask, from the byte p on
module _ (s : Bor (List ℕ)) (p : ℕ) (long : 2 * (p + 6) ≤ length s.now) (r b m : Reader) (front : r ≡ started s p) (first : b ≡ taken r 4) (second : m ≡ taken b 2) where
  pub task_taken : TaskAt s.now p (record { budget = b.value; mask = m.value })
  task_taken = record { budget = simp (first, front) (task_budget s.now p long); mask = simp (second, first, front) (task_mask s.now p long) }

  pub budget_taken : b.value < 2 ^ 32
  budget_taken = simp (first, front) (budget_fits s.now p long)

  pub mask_taken : m.value < 2 ^ 16
  mask_taken = simp (second, first, front) (mask_fits s.now p long)
