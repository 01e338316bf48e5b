-- Document 01: "Loops are removed by shifting units round the cycle, with all task and core sums kept (001, section 5)". A cycle as the code
-- keeps it, in the places lo to hi - 1 of two lists, and what one shift and all of them change.
-- Assumes nothing.
use Rattle.std.specs.Prelude.{◌≡◌, cond, ℕ, suc, ◌+◌, ◌-◌, ◌≤◌, ◌<◌, eqb}
use Rattle.rules.specs.Sum.{sum_to, positive}

-- d at the core c, 0 at any other
abbrev pub amount : ℕ → ℕ → ℕ → ℕ
amount j c d = cond (eqb j c) d 0

-- d units of task t went from one core to another: y after, x before
pub record Moved (x y : ℕ → ℕ → ℕ) (t from to d : ℕ) : Type 0 where
  pub differ : from ≡ to → ⊥
  pub others : (i : ℕ) → (i ≡ t → ⊥) → (j : ℕ) → j < 16 → y i j ≡ x i j
  pub rest : (j : ℕ) → j < 16 → (j ≡ from → ⊥) → (j ≡ to → ⊥) → y t j ≡ x t j
  pub less : y t from + d ≡ x t from
  pub more : y t to ≡ x t to + d

-- the core before place i, round the cycle
abbrev pub prior : (ℕ → ℕ) → ℕ → ℕ → ℕ → ℕ
prior core lo hi i = cond (eqb i lo) (core (hi - 1)) (core (i - 1))

pub record Ring (n m : ℕ) (x : ℕ → ℕ → ℕ) (task core : ℕ → ℕ) (lo hi : ℕ) : Type 0 where
  pub two : suc lo < hi
  pub tasks_below : (i : ℕ) → lo ≤ i → i < hi → task i < n
  pub cores_below : (i : ℕ) → lo ≤ i → i < hi → core i < m
  pub along : (i : ℕ) → lo ≤ i → i < hi → 0 < x (task i) (core i)
  pub back : (i : ℕ) → lo ≤ i → i < hi → 0 < x (task i) (prior core lo hi i)
  pub turns : (i : ℕ) → lo ≤ i → i < hi → core i ≡ prior core lo hi i → ⊥
  pub tasks_differ : (i l : ℕ) → lo ≤ i → i < l → l < hi → task i ≡ task l → ⊥

-- the least amount on the edges that are lowered
pub record Least (x : ℕ → ℕ → ℕ) (task core : ℕ → ℕ) (lo hi d : ℕ) : Type 0 where
  pub at_most : (i : ℕ) → lo ≤ i → i < hi → d ≤ x (task i) (core i)
  pub place : ℕ
  pub from_lo : lo ≤ place
  pub to_hi : place < hi
  pub met : x (task place) (core place) ≡ d

-- the shifts up to place i are done: one core has d too few, the last core of the cycle d too many
pub record Shifted (n m : ℕ) (x y : ℕ → ℕ → ℕ) (task core : ℕ → ℕ) (lo hi d i : ℕ) : Type 0 where
  pub rows : (a : ℕ) → a < n → sum_to m (y a) ≡ sum_to m (x a)
  pub columns : (j : ℕ) → j < m
      → sum_to n (λ a. y a j) + cond (eqb i lo) 0 (amount j (core (i - 1)) d) ≡ sum_to n (λ a. x a j) + cond (eqb i lo) 0 (amount j (core (hi - 1)) d)
  pub untouched : (l : ℕ) → i ≤ l → l < hi → (j : ℕ) → j < 16 → y (task l) j ≡ x (task l) j
  pub fewer : (a : ℕ) → a < n → (j : ℕ) → j < m → 0 < y a j → 0 < x a j
  pub emptied : (w : ℕ) → lo ≤ w → w < i → x (task w) (core w) ≡ d → y (task w) (core w) ≡ 0

-- all sums are kept, no edge is new
pub record Kept (n m : ℕ) (x y : ℕ → ℕ → ℕ) : Type 0 where
  pub rows : (a : ℕ) → a < n → sum_to m (y a) ≡ sum_to m (x a)
  pub columns : (j : ℕ) → j < m → sum_to n (λ a. y a j) ≡ sum_to n (λ a. x a j)
  pub fewer : (a : ℕ) → a < n → (j : ℕ) → j < m → 0 < y a j → 0 < x a j

-- the number of edges
unfoldable pub edges : ℕ → ℕ → (ℕ → ℕ → ℕ) → ℕ
edges n m x = sum_to n (λ i. sum_to m (λ j. positive (x i j)))
