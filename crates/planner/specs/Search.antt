-- The search for a core with room, over the lists that the code holds. These make the proofs easy and need no belief.
-- Assumes nothing.
use Rattle.std.specs.Prelude.{◌≡◌, List, ℕ, ◌^◌, ◌≤◌, ◌<◌, length, get_or, Option, Some, None}
use Rattle.rules.specs.Sizes.{max_cores, max_tasks}
use Rattle.rules.specs.Sum.{sum_to}
use Rattle.rules.specs.Sets.{has}
use Rattle.rules.specs.Plan.{at}
use Rattle.stretches.specs.Cell.{cell}
use Rattle.overload.specs.Stuck.{Stuck}
use Rattle.planner.specs.Stock.{Stock}
use Rattle.planner.specs.declared.search.Hop.{Hop}
use Rattle.planner.specs.declared.search.Trail.{Trail}

-- ---- what a search knows

-- what it found: the fields of the code's Trail, without the facts that it keeps of them
pub record Known : Type 0 where
  -- the cores in the order in which they were reached, each with the task that reached it
  pub queue : List Hop
  -- by task: the place of the queue through which it was found
  pub from : List ℕ
  -- so many cores are queued
  pub tail : ℕ
  -- the tasks and the cores found
  pub tasks : ℕ
  pub cores : ℕ

abbrev pub known : Trail → Known
known w = record { queue = w.queue; from = w.from; tail = w.tail; tasks = w.tasks; cores = w.cores }

-- nothing is found
abbrev pub emptied : Known → Known
emptied k = record { queue = k.queue; from = k.from; tail = 0; tasks = 0; cores = 0 }

-- the hop at the place p of a queue
abbrev pub hop_at : List Hop → ℕ → Hop
hop_at queue p = get_or queue p (record { core = 0; task = 0 })

-- at the place p of the queue: the core, and the task that reached it
abbrev pub core_at : Known → ℕ → ℕ
core_at w p = (hop_at w.queue p).core

abbrev pub task_at : Known → ℕ → ℕ
task_at w p = (hop_at w.queue p).task

-- the earlier place through which that task was found, and the core there
abbrev pub place_before : Known → ℕ → ℕ
place_before w p = at w.from (task_at w p)

abbrev pub core_before : Known → ℕ → ℕ
core_before w p = core_at w (place_before w p)

-- the lists have their lengths
pub record Sized (w : Known) : Type 0 where
  pub queue_long : length w.queue ≡ max_cores
  pub from_long : length w.from ≡ max_tasks

-- ---- what holds of it

-- the queue is as long as there are cores found
abbrev pub Counted : Known → Type 0
Counted k = k.tail ≡ sum_to max_cores (has k.cores)

-- the cores found hold those of the mask that are below k
pub record Holds (k mask cores : ℕ) : Type 0 where
  pub each : (j : ℕ) → j < k → has mask j ≡ 1 → has cores j ≡ 1

-- they hold the masks of all tasks found
abbrev pub MasksIn : ℕ → List ℕ → Known → Type 0
MasksIn m masks s = (t : ℕ) → has s.tasks t ≡ 1 → Holds m (at masks t) s.cores

-- the tasks below k of weight above 0 are found
pub record Gathered (k : ℕ) (weight : ℕ → ℕ) (tasks : ℕ) : Type 0 where
  pub each : (t : ℕ) → t < k → 0 < weight t → has tasks t ≡ 1

-- all that was found, when the cores before the place h have been asked for their tasks
pub record Found (m : ℕ) (masks : List ℕ) (s : Stock) (h : ℕ) (k : Known) : Type 0 where
  pub tasks_few : length masks ≤ max_tasks
  pub cores_few : m ≤ max_cores
  pub sized : Sized k
  pub tasks_in : k.tasks < 2 ^ length masks
  pub cores_in : k.cores < 2 ^ m
  -- the queue lists the cores found, each once
  pub counted : Counted k
  pub under : h ≤ k.tail
  pub listed : (p : ℕ) → p < k.tail → has k.cores (core_at k p) ≡ 1
  pub every : (j : ℕ) → has k.cores j ≡ 1 → (p : ℕ) × (p < k.tail) × (core_at k p ≡ j)
  -- each through a task found, whose mask holds it
  pub through : (p : ℕ) → p < k.tail → has k.tasks (task_at k p) ≡ 1
  pub allowed : (p : ℕ) → p < k.tail → has (at masks (task_at k p)) (core_at k p) ≡ 1
  -- a task that lacks nothing was found through an earlier core, on which it has units
  pub earlier : (p : ℕ) → p < k.tail → at s.left (task_at k p) ≡ 0 → place_before k p < p
  pub asked : (t : ℕ) → has k.tasks t ≡ 1 → at s.left t ≡ 0 → at k.from t < h
  pub holding : (t : ℕ) → has k.tasks t ≡ 1 → at s.left t ≡ 0 → 0 < cell s.units t (core_at k (at k.from t))

-- ---- what the steps of a search do

-- the queue is the old one with cores added, and what was found stays found
pub record Onward (before after : Known) : Type 0 where
  pub longer : before.tail ≤ after.tail
  pub kept : (p : ℕ) → p < before.tail → hop_at after.queue p ≡ hop_at before.queue p
  pub tasks : (t : ℕ) → has before.tasks t ≡ 1 → has after.tasks t ≡ 1
  pub cores : (j : ℕ) → has before.cores j ≡ 1 → has after.cores j ≡ 1

-- task t reached cores of its mask
pub record Reached (m t mask : ℕ) (before after : Known) : Type 0 where
  pub onward : Onward before after
  pub same_tasks : after.tasks ≡ before.tasks
  pub found : (masks : List ℕ) (s : Stock) (h : ℕ) → at masks t ≡ mask → has before.tasks t ≡ 1 → Found m masks s h before → Found m masks s h after

-- task t may be found through the place p: if it lacks nothing, it has units on the core there, and the place lies before h
abbrev pub Usable : Stock → Known → (t p h : ℕ) → Type 0
Usable s k t p h = at s.left t ≡ 0 → (p < h) × (0 < cell s.units t (core_at k p))

-- task t, if its weight w is above 0, is found through the place p, and the cores of its mask are
pub record Met (m t mask w p : ℕ) (before after : Known) : Type 0 where
  pub onward : Onward before after
  pub gathered : 0 < w → has after.tasks t ≡ 1
  pub masks_in : (masks : List ℕ) → at masks t ≡ mask → MasksIn m masks before → MasksIn m masks after
  pub found : (masks : List ℕ) (s : Stock) (h : ℕ) → at masks t ≡ mask → t < length masks → (0 < w → Usable s before t p h) → Found m masks s h before
      → Found m masks s h after

-- the tasks below k of weight above 0 are found; Weighs t w says that w may be the weight of task t
pub record Weighed (k : ℕ) (Weighs : ℕ → ℕ → Type 0) (tasks : ℕ) : Type 0 where
  pub each : (t : ℕ) → t < k → (w : ℕ) × Weighs t w × (0 < w → has tasks t ≡ 1)

-- those of them below n are found through the place p, and the cores of their masks are
pub record Swept (m : ℕ) (masks : List ℕ) (Weighs : ℕ → ℕ → Type 0) (p n : ℕ) (before after : Known) : Type 0 where
  pub onward : Onward before after
  pub weighed : Weighed n Weighs after.tasks
  pub masks_in : MasksIn m masks before → MasksIn m masks after
  pub found : (s : Stock) (h : ℕ) → ((t w : ℕ) → t < length masks → Weighs t w → 0 < w → Usable s before t p h) → Found m masks s h before
      → Found m masks s h after

-- the cores before the place h of the queue are full and were asked for their tasks, and no core is left out
pub record Sought (m : ℕ) (masks : List ℕ) (s : Stock) (h : ℕ) (k : Known) : Type 0 where
  pub found : Found m masks s h k
  pub starts : Gathered (length masks) (at s.left) k.tasks
  pub masks_in : MasksIn m masks k
  pub full : (p : ℕ) → p < h → at s.room (core_at k p) ≡ 0
  pub held : (p : ℕ) → p < h → Gathered (length masks) (λ t. cell s.units t (core_at k p)) k.tasks

-- ---- what a search answers

-- the way back from the place p, whose core has room: at each place a task whose mask holds its core; if it lacks nothing, it has units on
-- the core of an earlier place
pub record WayBack (m : ℕ) (masks : List ℕ) (s : Stock) (w : Known) (p : ℕ) : Type 0 where
  pub place : p < max_cores
  pub core : (r : ℕ) → r ≤ p → core_at w r < m
  pub task : (r : ℕ) → r ≤ p → task_at w r < length masks
  pub allowed : (r : ℕ) → r ≤ p → has (at masks (task_at w r)) (core_at w r) ≡ 1
  pub earlier : (r : ℕ) → r ≤ p → at s.left (task_at w r) ≡ 0 → place_before w r < r
  pub holding : (r : ℕ) → r ≤ p → at s.left (task_at w r) ≡ 0 → 0 < cell s.units (task_at w r) (core_before w r)
  pub room_there : 0 < at s.room (core_at w p)

-- a core with room, or no core has any
abbrev pub Sight : ℕ → List ℕ → Stock → Known → Option ℕ → Type 0
Sight m masks s w (Some p) = WayBack m masks s w p
Sight m masks s w None = Stuck (length masks) m (at masks) (cell s.units) (at s.left) (at s.room) w.tasks w.cores
