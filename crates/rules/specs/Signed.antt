-- What a customer signs for: demand 2 from what plan answered and from what then stands in his table. No allocation has to be named.
-- Assumes nothing.
use Rattle.std.specs.Prelude.{◌≡◌, true, List, [], ◌∷◌, ℕ, ◌+◌, ◌*◌, ◌≤◌, ◌<◌, length, take, drop}
use Rattle.rules.specs.Sets.{has, union}
use Rattle.rules.specs.Answer.{number_of, values_of}
use Rattle.rules.specs.Allocation.{limit_of}
use Rattle.rules.specs.Excess.{Exceeds, Smallest}
use Rattle.rules.specs.Extra.{extra_of}
use Rattle.rules.specs.Piece.{Piece, first_pieces}
use Rattle.rules.specs.FrameTable.{every, every_two, task_apart}
use Rattle.rules.specs.Service.{units}
use Rattle.rules.specs.Obeys.{allowed, Obeys}
use Rattle.rules.specs.Check.{check_answer}
use Rattle.rules.specs.Plan.{at}
use Rattle.rules.specs.declared.Answer.{Answer}
use Rattle.rules.specs.declared.Answer.TheVariants.{Accepted}
use Rattle.rules.specs.declared.Planned.{Planned}

-- an accepted set: the numbers that stand at the front of the lent table, four for each of the pieces that the answer counts
pub record SignedTable (F m : ℕ) (budgets masks before : List ℕ) (r : Planned) (after : List ℕ) : Type 0 where
  -- the table check accepts them
  pub checked : check_answer F m (take (4 * r.pieces) after) ≡ Accepted
  -- "exact budgets"
  pub exact : (i : ℕ) → i < length budgets → units F (first_pieces after r.pieces) i F ≡ at budgets i
  -- "allowed cores": each piece is of one of the tasks, on a core of its mask
  pub on_mask : every (allowed (length budgets) (at masks)) (first_pieces after r.pieces) ≡ true
  -- "never two at once": no two pieces of one task overlap
  pub apart : every_two task_apart (first_pieces after r.pieces) ≡ true
  -- "extra assignments below the number of cores"
  pub extra : extra_of (length budgets) m (first_pieces after r.pieces) < m
  -- at most n + 2 × m − 1 pieces, and the lent table holds them
  pub few : r.pieces + 1 ≤ length budgets + 2 * m
  pub held : 4 * r.pieces ≤ length before
  -- "Table places beyond the pieces of an accepted answer .. keep what they held"
  pub size : length after ≡ length before
  pub beyond : drop (4 * r.pieces) after ≡ drop (4 * r.pieces) before

-- the group g and the cores c that 7 carries
pub record NamedGroup (F m : ℕ) (budgets masks : List ℕ) (g c : ℕ) : Type 0 where
  pub smallest : Smallest (length budgets) m (limit_of F) (at budgets) (at masks) g
  pub exceeds : Exceeds (length budgets) m (limit_of F) (at budgets) (at masks) g
  -- "It holds no zero-budget task"
  pub no_zero : (i : ℕ) → i < length budgets → at budgets i ≡ 0 → has g i ≡ 0
  -- "group and its cores"
  pub cores : c ≡ union (length budgets) (at masks) g

-- "no such table exists"
abbrev pub NoneObeys : ℕ → ℕ → List ℕ → List ℕ → Type 0
NoneObeys F m budgets masks = (ps : List Piece) → Obeys F (length budgets) m (at budgets) (at masks) ps → ⊥

-- a set that passed the tests: "overload is refused exactly when no such table exists, with the smallest group of greatest excess"
pub record RefusedExactly (F m : ℕ) (budgets masks : List ℕ) (a : Answer) : Type 0 where
  pub refused_has_none : number_of a ≡ 7 → NoneObeys F m budgets masks
  pub none_is_refused : NoneObeys F m budgets masks → number_of a ≡ 7
  pub else_accepted : (number_of a ≡ 7 → ⊥) → a ≡ Accepted
  pub named : number_of a ≡ 7 → (g : ℕ) × (c : ℕ) × (values_of a ≡ g ∷ c ∷ []) × NamedGroup F m budgets masks g c
