-- The answer of plan over all inputs: which answers document 01 allows, and what the lent table holds afterwards.
-- Only the choice among loop-free allocations is open (docs/EXCEPTIONS.md).
-- Assumes nothing.
use Rattle.std.specs.Prelude.{◌≡◌, List, ◌++◌, ℕ, ◌*◌, length, get_or, drop}
use Rattle.rules.specs.Sets.{union}
use Rattle.rules.specs.Allocation.{limit_of, Allocation}
use Rattle.rules.specs.Excess.{Exceeds, Smallest}
use Rattle.rules.specs.Loops.{LoopFree}
use Rattle.rules.specs.Piece.{numbers_of}
use Rattle.rules.specs.Table.{table_of}
use Rattle.rules.specs.Tests.{Tested, refused, passed, tested}
use Rattle.rules.specs.declared.Answer.{Answer}
use Rattle.rules.specs.declared.Answer.TheVariants.{Accepted, Overloaded}
use Rattle.rules.specs.declared.Planned.{Planned}

-- a list of numbers as a function of the place
abbrev pub at : List ℕ → ℕ → ℕ
at l i = get_or l i 0

-- a refusal: no pieces, and the lent table keeps all
pub record Refusal (a : Answer) (before : List ℕ) (r : Planned) (after : List ℕ) : Type 0 where
  pub answer : r.answer ≡ a
  pub pieces : r.pieces ≡ 0
  pub kept : after ≡ before

module _ (F m : ℕ) (budgets masks : List ℕ) where
  -- 0: the table is the one that the loop-free allocation x fixes; what lies beyond its pieces keeps
  pub record PlannedBy (before : List ℕ) (r : Planned) (after : List ℕ) (x : ℕ → ℕ → ℕ) : Type 0 where
    pub allocation : Allocation (length budgets) m (limit_of F) (at budgets) (at masks) x
    pub loop_free : LoopFree (length budgets) m x
    pub answer : r.answer ≡ Accepted
    pub pieces : r.pieces ≡ length (table_of F (length budgets) m x)
    pub table : after ≡ numbers_of (table_of F (length budgets) m x) ++ drop (4 * length (table_of F (length budgets) m x)) before

  -- 7: "overload, as defined below", with "group and its cores"
  pub record OverloadedBy (before : List ℕ) (r : Planned) (after : List ℕ) (g : ℕ) : Type 0 where
    pub exceeds : Exceeds (length budgets) m (limit_of F) (at budgets) (at masks) g
    pub smallest : Smallest (length budgets) m (limit_of F) (at budgets) (at masks) g
    pub refusal : Refusal (Overloaded g (union (length budgets) (at masks) g)) before r after

  -- the search for an allocation decides between the two
  pub data Decided (before : List ℕ) (r : Planned) (after : List ℕ) : Type 0 where
    planned : (x : ℕ → ℕ → ℕ) → PlannedBy before r after x → Decided before r after
    overloaded : (g : ℕ) → OverloadedBy before r after g → Decided before r after

-- by what the tests say
abbrev pub PlanAnswerAt : Tested → ℕ → ℕ → List ℕ → List ℕ → List ℕ → Planned → List ℕ → Type 0
PlanAnswerAt (refused a) F m budgets masks before r after = Refusal a before r after
PlanAnswerAt passed F m budgets masks before r after = Decided F m budgets masks before r after

-- plan may answer r and leave `after` in the lent table, which held `before`
abbrev pub PlanAnswer : ℕ → ℕ → List ℕ → List ℕ → List ℕ → Planned → List ℕ → Type 0
PlanAnswer F m budgets masks before r after = PlanAnswerAt (tested F m budgets masks before) F m budgets masks before r after
