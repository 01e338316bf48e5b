-- For place, take and share of steps.rt: the elementary steps keep a partial allocation at every moment.
-- Assumes nothing.
use mathlib.Core.Path.{◌≡◌, sym, ◌∙◌, ap, ap₂}
use mathlib.Core.List.{List}
use Prim.Native.Nat.{ℕ, ◌+◌, ◌-◌, ◌*◌, ◌≤◌, ◌<◌}
use native.Mathlib.Nat.{le_trans}
use native.Mathlib.Decide.{ℕ_discrete}
use native.Mathlib.Omega.{arith}
use lib.ListN.{length, get_or, set, length-set}
use lib.Seq.{get_or-set_same, get_or-set_other, set-set, set-get_or}
use Rattle.rules.specs.Sum.{sum_to}
use Rattle.rules.specs.Sets.{has}
use Rattle.rules.specs.Plan.{at}
use Rattle.sums.proofs.Sum.{sum_but_one, sum_cong, sum_term}
use Rattle.stretches.specs.Cell.{cell}
use Rattle.planner.specs.Fill.{Filling, demand}
use Rattle.planner.specs.Stock.{Stock, PlaceFits, TakeFits, ShareFits, stock, placed, taken, share, shared, raise, lower}

pub raise_same : (l : List ℕ) (k d : ℕ) → k < length l → at (raise l k d) k ≡ at l k + d
unfolding raise
raise_same l k d h = get_or-set_same l k (get_or l k 0 + d) 0 h

pub raise_other : (l : List ℕ) (k d i : ℕ) → (i ≡ k → ⊥) → at (raise l k d) i ≡ at l i
unfolding raise
raise_other l k d i ne = get_or-set_other l k i (get_or l k 0 + d) 0 ne

pub lower_same : (l : List ℕ) (k d : ℕ) → k < length l → at (lower l k d) k ≡ at l k - d
unfolding lower
lower_same l k d h = get_or-set_same l k (get_or l k 0 - d) 0 h

pub lower_other : (l : List ℕ) (k d i : ℕ) → (i ≡ k → ⊥) → at (lower l k d) i ≡ at l i
unfolding lower
lower_other l k d i ne = get_or-set_other l k i (get_or l k 0 - d) 0 ne

pub raise_long : (l : List ℕ) (k d n : ℕ) → length l ≡ n → length (raise l k d) ≡ n
unfolding raise
raise_long l k d n e = length-set l k (get_or l k 0 + d) ∙ e

pub lower_long : (l : List ℕ) (k d n : ℕ) → length l ≡ n → length (lower l k d) ≡ n
unfolding lower
lower_long l k d n e = length-set l k (get_or l k 0 - d) ∙ e

-- down again by as much
pub raise_lower : (l : List ℕ) (k d : ℕ) → k < length l → lower (raise l k d) k d ≡ l
unfolding raise lower
raise_lower l k d h =
    set-set l k (get_or l k 0 + d) (get_or (set l k (get_or l k 0 + d)) k 0 - d)
    ∙ ap (set l k) (back (get_or-set_same l k (get_or l k 0 + d) 0 h)) ∙ set-get_or l k 0
  where
    back : {a b : ℕ} → a ≡ b + d → a - d ≡ b
    back e = omega arith

-- two cells of one place are one cell
cell_apart : (a b i j : ℕ) → b < 16 → j < 16 → a * 16 + b ≡ i * 16 + j → (a ≡ i) × (b ≡ j)
cell_apart a b i j h k e = (omega arith, omega arith)

module _ {F m : ℕ} {budgets masks : List ℕ} {s : Stock} (f : Filling (demand F m budgets masks) s) (i j d : ℕ) (i-in : i < length budgets) (j-in : j < m) where
  i_small : i < 64
  i_small = omega (arith, f.given.tasks)

  j_small : j < 16
  j_small = omega (arith, f.given.cores)

  index_small : i * 16 + j < length s.units
  index_small = omega (arith, i_small, j_small, f.units_long)

  i_left : i < length s.left
  i_left = omega (arith, i_small, f.left_long)

  j_room : j < length s.room
  j_room = omega (arith, j_small, f.room_long)

  -- the same s.units in other cells
  Elsewhere : List ℕ → Type 0
  Elsewhere other = (a b : ℕ) → b < 16 → ((a ≡ i) × (b ≡ j) → ⊥) → cell other a b ≡ cell s.units a b

  raise_elsewhere : Elsewhere (raise s.units (i * 16 + j) d)
  unfolding Elsewhere
  raise_elsewhere a b h ne = raise_other s.units (i * 16 + j) d (a * 16 + b) (λ e. ne (cell_apart a b i j h j_small e))

  lower_elsewhere : Elsewhere (lower s.units (i * 16 + j) d)
  unfolding Elsewhere
  lower_elsewhere a b h ne = lower_other s.units (i * 16 + j) d (a * 16 + b) (λ e. ne (cell_apart a b i j h j_small e))

  -- what is held of one task or on one core, after a change of one cell
  row_change : (other : List ℕ) → Elsewhere other → sum_to m (cell other i) + cell s.units i j ≡ sum_to m (cell s.units i) + cell other i j
  unfolding Elsewhere
  row_change other e = sum_but_one m j (cell other i) (cell s.units i) j-in (λ b l ne. e i b (le_trans l f.given.cores) (λ p. ne p.1))

  row_same : (other : List ℕ) → Elsewhere other → (a : ℕ) → (a ≡ i → ⊥) → sum_to m (cell other a) ≡ sum_to m (cell s.units a)
  unfolding Elsewhere
  row_same other e a ne = sum_cong m (λ b l. e a b (le_trans l f.given.cores) (λ p. ne p.0))

  column_change : (other : List ℕ) → Elsewhere other
      → sum_to (length budgets) (λ a. cell other a j) + cell s.units i j ≡ sum_to (length budgets) (λ a. cell s.units a j) + cell other i j
  unfolding Elsewhere
  column_change other e =
      sum_but_one (length budgets) i (λ a. cell other a j) (λ a. cell s.units a j) i-in (λ a l ne. e a j j_small (λ p. ne p.0))

  column_same : (other : List ℕ) → Elsewhere other → (b : ℕ) → b < 16 → (b ≡ j → ⊥)
      → sum_to (length budgets) (λ a. cell other a b) ≡ sum_to (length budgets) (λ a. cell s.units a b)
  unfolding Elsewhere
  column_same other e b h ne = sum_cong (length budgets) (λ a l. e a b h (λ p. ne p.1))

  -- the sums stand, whatever the amounts, if cell and rest change by as much in opposite ways
  module _ (other left' room' : List ℕ) (elsewhere : Elsewhere other) (allowed : has (at masks i) j ≡ 1)
      (long : (length other ≡ 1024) × (length left' ≡ 64) × (length room' ≡ 16))
      (row-even : cell other i j + at left' i ≡ cell s.units i j + at s.left i)
      (column-even : cell other i j + at room' j ≡ cell s.units i j + at s.room j)
      (left_other : (a : ℕ) → (a ≡ i → ⊥) → at left' a ≡ at s.left a)
      (room-other : (b : ℕ) → (b ≡ j → ⊥) → at room' b ≡ at s.room b) where
    changed : Filling (demand F m budgets masks) (stock other left' room')
    unfolding Elsewhere
    changed =
        record {
          given = f.given;
          units_long = long.0;
          left_long = long.1;
          room_long = long.2;
          inside = λ a b h z. elsewhere a b h (λ p. excluded (sym (ap₂ (λ (s k : ℕ). has (at masks s) k) p.0 p.1) ∙ z)) ∙ f.inside a b h z;
          row = λ a l.
              elim (ℕ_discrete a i) [
                | yes e ↦ rw e (even _ _ _ _ _ _ row-even (row_change other elsewhere) (f.row i i-in))
                | no ne ↦ ap₂ ◌+◌ (row_same other elsewhere a ne) (left_other a ne) ∙ f.row a l
              ];
          column = λ b l.
              elim (ℕ_discrete b j) [
                | yes e ↦ rw e (even _ _ _ _ _ _ column-even (column_change other elsewhere) (f.column j j-in))
                | no ne ↦ ap₂ ◌+◌ (column_same other elsewhere b (le_trans l f.given.cores) ne) (room-other b ne) ∙ f.column b l
              ];
        }
      where
        excluded : has (at masks i) j ≡ 0 → ⊥
        excluded z = omega arith

        even : (u v r s p q : ℕ) {t : ℕ} → u + r ≡ v + s → p + v ≡ q + u → q + s ≡ t → p + r ≡ t
        even u v r s p q e g h = omega arith

  pub placed_kept : has (at masks i) j ≡ 1 → d ≤ at s.left i → d ≤ at s.room j → Filling (demand F m budgets masks) (placed s i j d)
  placed_kept allowed l r =
      changed (raise s.units (i * 16 + j) d) (lower s.left i d) (lower s.room j d) raise_elsewhere allowed
      (raise_long s.units (i * 16 + j) d 1024 f.units_long, lower_long s.left i d 64 f.left_long, lower_long s.room j d 16 f.room_long)
      (even (cell s.units i j) l (raise_same s.units (i * 16 + j) d index_small) (lower_same s.left i d i_left))
      (even (cell s.units i j) r (raise_same s.units (i * 16 + j) d index_small) (lower_same s.room j d j_room))
      (λ a ne. lower_other s.left i d a ne)
      (λ b ne. lower_other s.room j d b ne)
    where
      even : {u r s : ℕ} (v : ℕ) → d ≤ s → u ≡ v + d → r ≡ s - d → u + r ≡ v + s
      even v h e g = omega arith

  pub taken_kept : has (at masks i) j ≡ 1 → d ≤ cell s.units i j → Filling (demand F m budgets masks) (taken s i j d)
  taken_kept allowed l =
      changed (lower s.units (i * 16 + j) d) (raise s.left i d) (raise s.room j d) lower_elsewhere allowed
      (lower_long s.units (i * 16 + j) d 1024 f.units_long, raise_long s.left i d 64 f.left_long, raise_long s.room j d 16 f.room_long)
      (even (at s.left i) l (lower_same s.units (i * 16 + j) d index_small) (raise_same s.left i d i_left))
      (even (at s.room j) l (lower_same s.units (i * 16 + j) d index_small) (raise_same s.room j d j_room))
      (λ a ne. raise_other s.left i d a ne)
      (λ b ne. raise_other s.room j d b ne)
    where
      even : {u v r : ℕ} (s : ℕ) → d ≤ v → u ≡ v - d → r ≡ s + d → u + r ≡ v + s
      even s h e g = omega arith

  -- what is placed or taken fits a number of 32 bits
  pub placing : d ≤ at s.left i → d ≤ at s.room j → PlaceFits s i j d
  placing l r =
      record {
        task = i_small;
        core = j_small;
        left_there = l;
        room_there = r;
        units_fit = omega (arith, sum_term (length budgets) i (λ a. cell s.units a j) i-in, f.column j j-in, f.given.frame);
      }

  pub taking : d ≤ cell s.units i j → TakeFits s i j d
  taking h =
      record {
        task = i_small;
        core = j_small;
        units_there = h;
        left_fits = omega (arith, sum_term m j (cell s.units i) j-in, f.row i i-in, f.given.small i i-in, f.given.frame);
        room_fits = omega (arith, sum_term (length budgets) i (λ a. cell s.units a j) i-in, f.column j j-in, f.given.frame);
      }

pub sharing : {F m : ℕ} {budgets masks : List ℕ} {s : Stock} {i j : ℕ} → Filling (demand F m budgets masks) s → i < length budgets → j < m → ShareFits s i j
sharing {budgets = budgets} {s = s} {i = i} {j = j} f i-in j-in =
    record {
      task = le_trans i-in f.given.tasks;
      core = le_trans j-in f.given.cores;
      units_fit = omega (arith, sum_term (length budgets) i (λ a. cell s.units a j) i-in, f.column j j-in, f.given.frame);
    }

-- what a core has room for, of what a task lacks
module _ (s : Stock) (t j : ℕ) {d : ℕ} (amount : d ≡ share s t j) where
  pub share_place : ShareFits s t j → PlaceFits s t j d
  share_place f =
      record {
        task = f.task;
        core = f.core;
        left_there = omega arith;
        room_there = omega arith;
        units_fit = omega (arith, f.units_fit);
      }

  pub share_done : {s' : Stock} → s' ≡ placed s t j d → s' ≡ shared s t j
  share_done e = e ∙ rw amount
