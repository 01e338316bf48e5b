-- Decoding what was encoded gives the set back: a set whose numbers fit is a well-written line, and its fields are the set's.
-- Assumes nothing.
use mathlib.Core.Path.{◌≡◌, refl, sym, ◌∙◌, ap}
use mathlib.Core.Bool.{true}
use mathlib.Core.List.{List, [], ◌∷◌, ◌++◌, append_assoc}
use Prim.Native.Nat.{ℕ, zero, suc, ◌+◌, ◌*◌, ◌%◌, ◌≤◌, ◌<◌}
use native.Mathlib.Numerals.{unary_clauses}
use native.Mathlib.Omega.{arith}
use lib.ListN.{length, get_or, take, drop, length-append}
use lib.Seq.{split_at, take-suc, take-length, length-take-le}
use borrow.Author.Tests.{le-leb, eq-eqb}
use Rattle.rules.specs.Line.{bytes, field, line_frame, line_cores, line_tasks, line_budgets, line_masks, task_fields, all_digits, well_written}
use Rattle.setline.specs.SetLine.{task_lines, set_line, Fits}
use Rattle.fields.proofs.PastedLaws.{length_digits}
use Rattle.fields.proofs.ReadBack.{field_read, all_append, all_written}

length_task_lines : (bs ms : List ℕ) → length bs ≡ length ms → length (task_lines bs ms) ≡ 12 * length bs
unfolding task_lines
length_task_lines [] ms e = refl
length_task_lines (b ∷ bs) [] e = omega arith
length_task_lines (b ∷ bs) (m ∷ ms) e = simp (length-append, length_digits, length_task_lines bs ms (omega arith), unary_clauses) (omega arith)

all_task_lines : (bs ms : List ℕ) → all_digits (task_lines bs ms) ≡ true
unfolding task_lines all_digits
all_task_lines [] ms = refl
all_task_lines (b ∷ bs) [] = refl
all_task_lines (b ∷ bs) (m ∷ ms) = simp (all_append, all_written, all_task_lines bs ms)

task_lines_append : (xs ks bs ms : List ℕ) → length xs ≡ length ks → task_lines (xs ++ bs) (ks ++ ms) ≡ task_lines xs ks ++ task_lines bs ms
unfolding task_lines
task_lines_append [] [] bs ms e = refl
task_lines_append [] (k ∷ ks) bs ms e = zero_suc (length ks) e
  where
    zero_suc : {A : Type 0} (n : ℕ) → ◌≡◌ {A = ℕ} 0 (suc n) → A
    zero_suc n e = absurd (never e)
      where
        never : ◌≡◌ {A = ℕ} 0 (suc n) → ⊥
        never e = omega arith
task_lines_append (a ∷ xs) [] bs ms e = suc_zero (length xs) e
  where
    suc_zero : {A : Type 0} (n : ℕ) → ◌≡◌ {A = ℕ} (suc n) 0 → A
    suc_zero n e = absurd (never e)
      where
        never : ◌≡◌ {A = ℕ} (suc n) 0 → ⊥
        never e = omega arith
task_lines_append (a ∷ xs) (k ∷ ks) bs ms e = simp (task_lines_append xs ks bs ms (omega arith), append_assoc)

-- the lines of the tasks before task i, of task i, and of those after it
module _ (bs ms : List ℕ) (same : length bs ≡ length ms) (i : ℕ) (h : i < length bs) where
  abbrev before : List ℕ
  before = task_lines (take i bs) (take i ms)

  abbrev after : List ℕ
  after = task_lines (drop (suc i) bs) (drop (suc i) ms)

  short : (l : List ℕ) → i < length l → length (take i l) ≡ i
  short l g = length-take-le i l (omega arith)

  length_before : length before ≡ 12 * i
  length_before = length_task_lines (take i bs) (take i ms) (simp (short bs h, short ms (omega arith))) ∙ simp (short bs h)

  task_split : task_lines bs ms ≡ before ++ (bytes 4 (get_or bs i 0) ++ (bytes 2 (get_or ms i 0) ++ after))
  unfolding task_lines
  task_split =
      ap (λ (x : List ℕ). task_lines x ms) (split_at bs i 0 h)
      ∙ ap (λ (x : List ℕ). task_lines (take i bs ++ get_or bs i 0 ∷ drop (suc i) bs) x) (split_at ms i 0 (omega arith))
      ∙ task_lines_append (take i bs) (take i ms) (get_or bs i 0 ∷ drop (suc i) bs) (get_or ms i 0 ∷ drop (suc i) ms) (simp (short bs h, short ms (omega arith)))

module _ (F m : ℕ) (bs ms : List ℕ) (fits : Fits F m bs ms) where
  abbrev l : List ℕ
  l = set_line F m bs ms

  abbrev header : List ℕ
  header = bytes 4 F ++ (bytes 1 m ++ bytes 1 (length bs))

  at_header : l ≡ header ++ task_lines bs ms
  unfolding set_line
  at_header = simp append_assoc

  pub frame_back : line_frame l ≡ F
  unfolding set_line
  frame_back = field_read l [] (bytes 1 m ++ (bytes 1 (length bs) ++ task_lines bs ms)) 0 4 F refl refl fits.frame

  pub cores_back : line_cores l ≡ m
  unfolding set_line
  cores_back = field_read l (bytes 4 F) (bytes 1 (length bs) ++ task_lines bs ms) 4 1 m refl (length_digits 8 F) fits.cores

  pub tasks_back : line_tasks l ≡ length bs
  unfolding set_line
  tasks_back = field_read l (bytes 4 F ++ bytes 1 m) (task_lines bs ms) 5 1 (length bs) (simp append_assoc) (simp (length-append, length_digits)) fits.tasks

  budget_back : (i : ℕ) → i < length bs → field l (6 + 6 * i + 0) 4 ≡ get_or bs i 0
  budget_back i h =
      field_read l (header ++ before bs ms fits.same i h) (bytes 2 (get_or ms i 0) ++ after bs ms fits.same i h) (6 + 6 * i + 0) 4 (get_or bs i 0)
      (at_header ∙ ap (λ (x : List ℕ). header ++ x) (task_split bs ms fits.same i h) ∙ sym (append_assoc header (before bs ms fits.same i h) _))
      (simp (length-append, length_digits, length_before bs ms fits.same i h) (omega arith)) (fits.budget i h)

  mask_back : (i : ℕ) → i < length bs → field l (6 + 6 * i + 4) 2 ≡ get_or ms i 0
  mask_back i h =
      field_read l (header ++ before bs ms fits.same i h ++ bytes 4 (get_or bs i 0)) (after bs ms fits.same i h) (6 + 6 * i + 4) 2 (get_or ms i 0)
      (at_header ∙ ap (λ (x : List ℕ). header ++ x) (task_split bs ms fits.same i h) ∙ simp append_assoc)
      (simp (length-append, length_digits, length_before bs ms fits.same i h) (omega arith)) (fits.mask i (omega (arith, fits.same)))

-- the fields that each task's place holds, one after another, are the list
collected : (l : List ℕ) (p w : ℕ) (xs : List ℕ) → ((i : ℕ) → i < length xs → field l (6 + 6 * i + p) w ≡ get_or xs i 0) → (k : ℕ) → k ≤ length xs → task_fields l p w k ≡ take k xs
unfolding task_fields
collected l p w xs h zero g = refl
collected l p w xs h (suc k) g = simp (collected l p w xs h k (omega arith), h k g) (sym (take-suc xs k 0 g))

module _ (F m : ℕ) (bs ms : List ℕ) (fits : Fits F m bs ms) where
  pub budgets_back : line_budgets (set_line F m bs ms) ≡ bs
  budgets_back =
      ap (task_fields (set_line F m bs ms) 0 4) (tasks_back F m bs ms fits)
      ∙ collected (set_line F m bs ms) 0 4 bs (budget_back F m bs ms fits) (length bs) (omega arith)
      ∙ take-length bs

  pub masks_back : line_masks (set_line F m bs ms) ≡ ms
  masks_back =
      ap (task_fields (set_line F m bs ms) 4 2) (tasks_back F m bs ms fits ∙ fits.same)
      ∙ collected (set_line F m bs ms) 4 2 ms (λ i h. mask_back F m bs ms fits i (omega (arith, fits.same))) (length ms) (omega arith)
      ∙ take-length ms

  long : length (set_line F m bs ms) ≡ 12 + 12 * length bs
  unfolding set_line
  long = simp (length-append, length_digits, length_task_lines bs ms fits.same) (omega arith)

  all_digits_lem : all_digits (set_line F m bs ms) ≡ true
  unfolding set_line
  all_digits_lem = simp (all_append, all_written, all_task_lines)

  pub set_line_well_written : well_written (set_line F m bs ms) ≡ true
  unfolding well_written
  set_line_well_written =
      simp (
        all_digits_lem,
        le-leb (length (set_line F m bs ms)) 3072 (omega (arith, long, fits.tasks)),
        eq-eqb (length (set_line F m bs ms) % 2) 0 (omega (arith, long)),
        le-leb 12 (length (set_line F m bs ms)) (omega (arith, long)),
        tasks_back F m bs ms fits,
        eq-eqb (length (set_line F m bs ms)) (2 * (6 + 6 * length bs)) (omega (arith, long)),
      )
