-- Document 01, "From allocation to table": where each stretch starts. n tasks, m cores, x i j units of task i on core j.
-- A procedure that can be run: the cores are visited one after another, and a task that is met on a visited core reaches its other cores.
-- Assumes nothing.
use Rattle.std.specs.Prelude.{ℕ, zero, suc, ◌+◌, ◌*◌, true, false, cond, eqb, ltb}
use Rattle.rules.specs.Sum.{sum_to, put, lowest}

-- what runs before i if the one named by p runs first and the rest in ascending number: p is 0 for none, suc q for q
unfoldable pub ahead : ℕ → (ℕ → ℕ) → ℕ → ℕ
ahead zero f i = sum_to i f
ahead (suc q) f i = cond (eqb i q) 0 (f q + sum_to i (put q 0 f))

-- how far the visits have come. The functions are 0 or 1 where they say whether.
pub record Walk : Type 0 where
  pub visited : ℕ → ℕ
  pub reached : ℕ → ℕ
  pub met : ℕ → ℕ
  -- where a core starts
  pub start : ℕ → ℕ
  -- the task through which a core was reached, plus 1; 0 for a root
  pub first : ℕ → ℕ

-- "The group's lowest core is its root and starts at 0"
unfoldable pub begun : Walk
begun = record { visited = λ j. 0; reached = λ j. 0; met = λ t. 0; start = λ j. 0; first = λ j. 0 }

module _ (n m : ℕ) (x : ℕ → ℕ → ℕ) where
  -- "On a core, tasks run one after another without gaps. On the root they run in ascending number. On any other core, the task through
  -- which it was reached runs first, then the rest ascending": where task t starts on core j
  unfoldable pub stretch : Walk → ℕ → ℕ → ℕ
  stretch w t j = w.start j + ahead (w.first j) (λ i. x i j) t

  -- task t, met on core j where it starts at s, reaches core k: "Each of these starts where that task's previous stretch ended". Without loops
  -- each core is reached once at most, so that no start is written over another.
  unfoldable pub reach_one : ℕ → ℕ → ℕ → ℕ → Walk → Walk
  reach_one t j s k w =
      elim (x t k) [
        | zero ↦ w
        | suc v ↦
            elim (eqb k j) [
              | true ↦ w
              | false ↦
                  record {
                    visited = w.visited;
                    reached = put k 1 w.reached;
                    met = w.met;
                    start = put k (s + ahead (suc j) (x t) k) w.start;
                    first = put k (suc t) w.first;
                  }
            ]
      ]

  -- "its other cores are reached in ascending number": those below c
  unfoldable pub reach : ℕ → ℕ → ℕ → ℕ → Walk → Walk
  reach t j s zero w = w
  reach t j s (suc c) w = reach_one t j s c (reach t j s c w)

  unfoldable pub meet_mark : ℕ → Walk → Walk
  meet_mark t w = record { visited = w.visited; reached = w.reached; met = put t 1 w.met; start = w.start; first = w.first }

  -- "When a task is first met, its other cores are reached"
  unfoldable pub meet_one : ℕ → ℕ → Walk → Walk
  meet_one j t w =
      elim (x t j) [
        | zero ↦ w
        | suc v ↦ elim (w.met t) [ zero ↦ reach t j (stretch w t j) m (meet_mark t w) | suc v ↦ w ]
      ]

  -- the tasks of core j below c, in ascending number
  unfoldable pub meet : ℕ → ℕ → Walk → Walk
  meet j zero w = w
  meet j (suc c) w = meet_one j c (meet j c w)

  unfoldable pub visit_mark : ℕ → Walk → Walk
  visit_mark j w = record { visited = put j 1 w.visited; reached = put j 1 w.reached; met = w.met; start = w.start; first = w.first }

  unfoldable pub visit : ℕ → Walk → Walk
  visit j w = meet j n (visit_mark j w)

  -- a core that is reached and not visited is visited first, the lowest of them; without one, the lowest core that is left is a root
  unfoldable pub waiting : Walk → ℕ → ℕ
  waiting w j = w.reached j * cond (eqb (w.visited j) 0) 1 0

  unfoldable pub unvisited : Walk → ℕ → ℕ
  unvisited w j = cond (eqb (w.visited j) 0) 1 0

  unfoldable pub next_core : Walk → ℕ
  next_core w = elim (ltb (lowest m (waiting w)) m) [ true ↦ lowest m (waiting w) | false ↦ lowest m (unvisited w) ]

  -- after c visits
  unfoldable pub visits : ℕ → Walk
  visits zero = begun
  visits (suc c) = let w = visits c in visit (next_core w) w

  -- each core was visited
  unfoldable pub layout : Walk
  layout = visits m
