-- Document 01, "Settled examples": P1 to P10 as one list, and what it means that an example holds.
-- A line is written as the number whose digits it shows.
-- Assumes nothing.
use Rattle.std.specs.Prelude.{◌≡◌, false, List, [], ◌∷◌, ◌++◌, ℕ, ◌+◌, ◌*◌, ◌^◌, ◌≤◌, ◌<◌, length, drop}
use Rattle.rules.specs.Sum.{sum_to}
use Rattle.rules.specs.Sets.{union}
use Rattle.rules.specs.Answer.{number_of, values_of}
use Rattle.rules.specs.Allocation.{limit_of, Allocation}
use Rattle.rules.specs.Excess.{group_budget, group_capacity, Smallest}
use Rattle.rules.specs.Loops.{LoopFree}
use Rattle.rules.specs.Piece.{pieces_of, whole_pieces}
use Rattle.rules.specs.Service.{units}
use Rattle.rules.specs.Paced.{Paced, Bounded}
use Rattle.rules.specs.Table.{cells, cell_at}
use Rattle.rules.specs.Tests.{short_table}
use Rattle.rules.specs.Plan.{at, PlanAnswer}
use Rattle.rules.specs.Check.{check_answer, moves_answer}
use Rattle.rules.specs.Walked.{WalkAnswer}
use Rattle.rules.specs.Line.{digits}
use Rattle.rules.specs.LineCall.{LineAnswer}
use Rattle.rules.specs.declared.Answer.{Answer}
use Rattle.rules.specs.declared.Answer.TheVariants.{Accepted, Budget, Overloaded}
use Rattle.rules.specs.declared.Planned.{Planned}

pub data Example : Type 0 where
  -- F, m, budgets, masks: only one allocation; its units, task after task, each on core 0, core 1 and so on
  allocates : ℕ → ℕ → List ℕ → List ℕ → List ℕ → Example
  -- F, m, budgets, masks: accepted with this table
  accepts : ℕ → ℕ → List ℕ → List ℕ → List ℕ → Example
  -- F, m, budgets, masks: refused with this answer; its number and what it carries
  refuses : ℕ → ℕ → List ℕ → List ℕ → Answer → ℕ → List ℕ → Example
  -- F, m, budgets, masks: overload with this group, these cores and this excess
  overloads : ℕ → ℕ → List ℕ → List ℕ → ℕ → ℕ → ℕ → Example
  -- F, m, budgets, masks, an excess: the groups that have it are these and no others
  excess : ℕ → ℕ → List ℕ → List ℕ → ℕ → List ℕ → Example
  -- F, m, budgets: the total of the budgets, which is below F × m, and F × m
  total : ℕ → ℕ → List ℕ → ℕ → ℕ → Example
  -- how many digits in and which, how many out and which
  answers : ℕ → ℕ → ℕ → ℕ → Example
  -- F, m, table: it passes the table check and has so many moves
  moved : ℕ → ℕ → List ℕ → ℕ → Example
  -- F, m, table, task, releases, units of the jobs: the finishes
  finishes : ℕ → ℕ → List ℕ → ℕ → List ℕ → List ℕ → List ℕ → Example
  -- F, m, table, task, releases, units of the jobs, T, c: the finish bound's premises and the bound hold; job 0 finishes after the first
  -- instant, which is its release + T, and not after the second, which is its release + T + F
  paced : ℕ → ℕ → List ℕ → ℕ → List ℕ → List ℕ → ℕ → ℕ → ℕ → ℕ → Example

-- every allocation of the set has these units; and they are an allocation, and a loop-free one
pub record OnlyAllocation (F m : ℕ) (budgets masks given : List ℕ) : Type 0 where
  pub only : (x : ℕ → ℕ → ℕ) → Allocation (length budgets) m (limit_of F) (at budgets) (at masks) x → cells (length budgets) m x ≡ given
  pub some : Allocation (length budgets) m (limit_of F) (at budgets) (at masks) (cell_at m given)
  pub loop_free : LoopFree (length budgets) m (cell_at m given)

-- there is room for n + 2 × m − 1 pieces in the lent table
abbrev pub Roomy : ℕ → ℕ → List ℕ → Type 0
Roomy n m before = short_table n m (whole_pieces before) ≡ false

-- every answer that the rules allow on a lent table with room is this one, and there is one
pub record Only (F m : ℕ) (budgets masks : List ℕ) (a : Answer) (table : List ℕ) : Type 0 where
  pub only : (before : List ℕ) → Roomy (length budgets) m before → (r : Planned) (after : List ℕ) → PlanAnswer F m budgets masks before r after
      → (r.answer ≡ a) × (4 * r.pieces ≡ length table) × (after ≡ table ++ drop (length table) before)
  pub some : (before : List ℕ) → Roomy (length budgets) m before → (r : Planned) × (after : List ℕ) × PlanAnswer F m budgets masks before r after

-- the excess of the group g is e, which is not below zero
abbrev pub HasExcess : ℕ → ℕ → List ℕ → List ℕ → ℕ → ℕ → Type 0
HasExcess F m budgets masks g e =
    group_budget (length budgets) (at budgets) g ≡ group_capacity (length budgets) m (limit_of F) (at budgets) (at masks) g + e

-- each of these groups has the excess e, and a group that has it is one of them
pub record OnlyGroups (F m : ℕ) (budgets masks : List ℕ) (e : ℕ) (groups : List ℕ) : Type 0 where
  pub each : (k : ℕ) → k < length groups → HasExcess F m budgets masks (at groups k) e
  pub no_other : (g : ℕ) → g < 2 ^ length budgets → HasExcess F m budgets masks g e → (k : ℕ) × (k < length groups) × (g ≡ at groups k)

module _ (F m : ℕ) (table : List ℕ) (task : ℕ) (releases jobs : List ℕ) where
  -- what holds of every answer that the rules allow on a lent list of finishes with a place for each job
  abbrev pub EachWalk : (List ℕ → Answer → List ℕ → Type 0) → Type 0
  EachWalk P =
      (before : List ℕ) → length releases ≤ length before → (r : Answer) (after : List ℕ) → WalkAnswer F m table task releases jobs before r after
      → P before r after

  -- every such answer is this one, the places beyond the jobs keep what they held, and there is one
  pub record OnlyFinishes (fs : List ℕ) : Type 0 where
    pub only : EachWalk (λ before r after. (r ≡ Accepted) × (after ≡ fs ++ drop (length fs) before))
    pub some : (before : List ℕ) → length releases ≤ length before
        → (r : Answer) × (after : List ℕ) × WalkAnswer F m table task releases jobs before r after

  -- the task's units in a frame, T, c and the jobs meet the premises of the bound; every such answer keeps the bound, and in every one the
  -- first finish is past the release + T but not past the release + T + F
  pub record OnPace (T c past last : ℕ) : Type 0 where
    pub premises : Paced F (units F (pieces_of table) task F) T c (length releases) (at releases) (at jobs)
    pub bounded : EachWalk (λ before r after. Bounded F T (length releases) (at releases) (at after))
    pub with_period : at releases 0 + T ≡ past
    pub with_frame : at releases 0 + T + F ≡ last
    pub first : EachWalk (λ before r after. (past < at after 0) × (at after 0 ≤ last))

abbrev pub Holds : Example → Type 0
Holds (allocates F m budgets masks given) = OnlyAllocation F m budgets masks given
Holds (accepts F m budgets masks table) = Only F m budgets masks Accepted table
Holds (refuses F m budgets masks a number values) = Only F m budgets masks a [] × (number_of a ≡ number) × (values_of a ≡ values)
Holds (overloads F m budgets masks g c e) =
    Only F m budgets masks (Overloaded g c) [] ×
    Smallest (length budgets) m (limit_of F) (at budgets) (at masks) g ×
    HasExcess F m budgets masks g e ×
    (union (length budgets) (at masks) g ≡ c)
Holds (excess F m budgets masks e groups) = OnlyGroups F m budgets masks e groups
Holds (total F m budgets sum all) = (sum_to (length budgets) (at budgets) ≡ sum) × (F * m ≡ all) × (sum < all)
Holds (answers c v d w) = ((line : List ℕ) → LineAnswer (digits c v) line → line ≡ digits d w) × LineAnswer (digits c v) (digits d w)
Holds (moved F m table count) = (check_answer F m table ≡ Accepted) × (moves_answer F m table ≡ record { answer = Accepted; moves = count })
Holds (finishes F m table task releases jobs fs) = OnlyFinishes F m table task releases jobs fs
Holds (paced F m table task releases jobs T c past last) = OnPace F m table task releases jobs T c past last

-- all of a list hold
abbrev pub AllHold : List Example → Type 0
AllHold [] = Unit {0}
AllHold (e ∷ l) = Holds e × AllHold l

-- the table of P1
abbrev pub tableP1 : List ℕ
tableP1 = 0 ∷ 0 ∷ 0 ∷ 3 ∷ 0 ∷ 1 ∷ 3 ∷ 3 ∷ 1 ∷ 2 ∷ 0 ∷ 3 ∷ 1 ∷ 0 ∷ 3 ∷ 1 ∷ 1 ∷ 2 ∷ 4 ∷ 2 ∷ []

-- a mask is written by its bits: 0b11 is {0,1}
abbrev pub settled : List Example
settled =
    -- P1: "Only one allocation: task 0 has 3 on core 0 and 1 on core 1", its table, its lines, "Moves: 1"
    allocates 6 2 (4 ∷ 3 ∷ 5 ∷ []) (0b11 ∷ 0b01 ∷ 0b10 ∷ []) (3 ∷ 1 ∷ 3 ∷ 0 ∷ 0 ∷ 5 ∷ []) ∷
    accepts 6 2 (4 ∷ 3 ∷ 5 ∷ []) (0b11 ∷ 0b01 ∷ 0b10 ∷ []) tableP1 ∷
    answers 48 0x000000060203000000040003000000030001000000050002
    106 0x0000050000000000000000000300010000000300000003010200000000000000030100000000030000000101020000000400000002 ∷
    moved 6 2 tableP1 1 ∷
    -- P2, its lines, "The total 19 is below 20"
    overloads 10 2 (8 ∷ 8 ∷ 3 ∷ []) (0b01 ∷ 0b01 ∷ 0b10 ∷ []) 0b011 0b01 6 ∷
    answers 48 0x0000000a0203000000080001000000080001000000030002 22 0x0700000000000000030001 ∷
    total 10 2 (8 ∷ 8 ∷ 3 ∷ []) 19 20 ∷
    -- P3: "excess 2 twice; the group is {0,1}"
    excess 10 2 (6 ∷ 6 ∷ 10 ∷ []) (0b01 ∷ 0b01 ∷ 0b10 ∷ []) 2 (0b011 ∷ 0b111 ∷ []) ∷
    overloads 10 2 (6 ∷ 6 ∷ 10 ∷ []) (0b01 ∷ 0b01 ∷ 0b10 ∷ []) 0b011 0b01 2 ∷
    -- P4: "5 with task 0"
    refuses 10 2 (11 ∷ []) (0b11 ∷ []) (Budget 0) 5 (0 ∷ []) ∷
    -- P5
    accepts 10 1 (5 ∷ 5 ∷ []) (0b1 ∷ 0b1 ∷ []) (0 ∷ 0 ∷ 0 ∷ 5 ∷ 0 ∷ 1 ∷ 5 ∷ 5 ∷ []) ∷
    -- P6
    overloads 10 1 (5 ∷ 6 ∷ []) (0b1 ∷ 0b1 ∷ []) 0b11 0b1 1 ∷
    -- P7
    accepts 10 2 (5 ∷ 10 ∷ []) (0b11 ∷ 0b01 ∷ []) (0 ∷ 1 ∷ 0 ∷ 10 ∷ 1 ∷ 0 ∷ 0 ∷ 5 ∷ []) ∷
    -- P8 and its line
    accepts 10 1 (0 ∷ []) (0b1 ∷ []) [] ∷
    answers 24 0x0000000a0101000000000001 6 0x000000 ∷
    -- P9
    finishes 6 2 tableP1 0 (1 ∷ []) (4 ∷ []) (7 ∷ []) ∷
    -- P10: "With T 9 and c 6 the first passes 13 but not 19"
    finishes 6 2 tableP1 0 (4 ∷ 13 ∷ []) (6 ∷ 6 ∷ []) (14 ∷ 22 ∷ []) ∷
    paced 6 2 tableP1 0 (4 ∷ 13 ∷ []) (6 ∷ 6 ∷ []) 9 6 13 19 ∷
    []
