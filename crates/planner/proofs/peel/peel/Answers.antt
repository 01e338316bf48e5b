use Rattle.stretches.specs.Cell.{cell}
use Rattle.forest.specs.Stripping.{links}
use Rattle.planner.specs.Loose.{LooseAt, FastBelow}
use Rattle.planner.proofs.LooseLaws.{on_side, peel_task, peel_core, task_less, core_less, all_fast}
use Rattle.planner.proofs.peel.peel.Goals.{After-with, After-with-in-Some-loose}
use Rattle.planner.proofs.peel.peel.Goals as goal

task_found : (c : After-with) → LooseAt c.args.grid.tasks c.loop-t.gone.tasks (links c.args.grid.cores c.loop-t.gone.cores (cell c.args.grid.units.now)) c.in-Some.t
task_found c =
    on_side (λ n m x. LooseAt n c.loop-t.gone.tasks (links m c.loop-t.gone.cores x) c.in-Some.t) c.tasks-tasks.ensures.few c.tasks-tasks.ensures.same
    c.in-Some.ensures

core_found : (c : After-with-in-Some-loose)
    → LooseAt c.args.grid.cores c.loop-t.gone.cores (links c.args.grid.tasks c.loop-t.gone.tasks (λ j i. cell c.args.grid.units.now i j)) c.in-Some-loose.c
core_found c =
    on_side (λ n m x. LooseAt n c.loop-t.gone.cores (links m c.loop-t.gone.tasks x) c.in-Some-loose.c) c.cores-cores.ensures.few c.cores-cores.ensures.same
    c.in-Some-loose.ensures

pub loop-t-smaller-in-Some : goal.loop-t-smaller-in-Some
loop-t-smaller-in-Some c = task_less 64 _ _ _ _ _ _ _ (task_found c) c.args.grid.few_tasks c.with.ensures

pub loop-t-preserved-in-Some : goal.loop-t-preserved-in-Some
loop-t-preserved-in-Some c = peel_task _ _ _ _ _ c.loop-t.invariant 64 _ _ (task_found c) c.args.grid.few_tasks c.with.ensures

pub loop-t-smaller : goal.loop-t-smaller
loop-t-smaller c = core_less 16 _ _ _ _ _ _ _ (core_found c) c.args.grid.few_cores c.with-in-Some-loose.ensures

pub loop-t-preserved : goal.loop-t-preserved
loop-t-preserved c = peel_core _ _ _ _ _ c.loop-t.invariant 16 _ _ (core_found c) c.args.grid.few_cores c.with-in-Some-loose.ensures

pub returns-in_default-loose : goal.returns-in_default-loose
returns-in_default-loose c = (
  c.loop-t.invariant,
  all_fast _ _ _ _ _
      (on_side (λ n m x. FastBelow c.loop-t.gone.tasks (links m c.loop-t.gone.cores x) n) c.tasks-tasks.ensures.few c.tasks-tasks.ensures.same c.in_default.ensures)
      (on_side (λ n m x. FastBelow c.loop-t.gone.cores (links m c.loop-t.gone.tasks x) n) c.cores-cores.ensures.few c.cores-cores.ensures.same c.in_default-loose.ensures),
)
