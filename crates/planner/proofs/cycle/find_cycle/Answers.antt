use Rattle.std.proofs.Common.{sym, arith, ◌+◌, ◌≤◌, ◌<◌}
use Rattle.std.proofs.Math.ListN.{set, length-set}
use Rattle.std.specs.Prelude.{Some}
use Rattle.stretches.specs.Cell.{cell}
use Rattle.rules.specs.Plan.{at}
use Rattle.forest.specs.Ring.{Ring}
use Rattle.forest.specs.Stripping.{links}
use Rattle.planner.specs.Sides.{OtherThan}
use Rattle.planner.proofs.LooseLaws.{on_side}
use Rattle.planner.proofs.CycleLaws.{came_next, cycle_core, cycle_task, cycle_more, seek_short, seek_task_links}
use Rattle.planner.proofs.cycle.find_cycle.Goals.{After-other-c, After-other-u, In-Some-place_of}
use Rattle.planner.proofs.cycle.find_cycle.Goals as goal

core_found : (c : After-other-c) → OtherThan c.loop-a.from c.args.grid.cores c.args.gone.cores (cell c.args.grid.units.now (at c.loop-a.tasks c.loop-a.k)) c.other-c.result
core_found c =
    on_side (λ n m x. OtherThan c.loop-a.from m c.args.gone.cores (x (at c.loop-a.tasks c.loop-a.k)) c.other-c.result) c.tasks-by_task.ensures.few c.tasks-by_task.ensures.same
    c.other-c.ensures

task_found : (c : After-other-u)
    → OtherThan (Some (at c.loop-a.tasks c.loop-a.k)) c.args.grid.tasks c.args.gone.tasks (λ i. cell c.args.grid.units.now i c.other-c.result) c.other-u.result
task_found c =
    on_side (λ n m x. OtherThan (Some (at c.loop-a.tasks c.loop-a.k)) m c.args.gone.tasks (x c.other-c.result) c.other-u.result) c.cores-by_core.ensures.few
    c.cores-by_core.ensures.same c.other-u.ensures

ring_found : (c : In-Some-place_of)
    → Ring c.args.grid.tasks c.args.grid.cores (cell c.args.grid.units.now) (at c.loop-a.tasks) (at (set c.loop-a.cores c.loop-a.k c.other-c.result)) c.in-Some-place_of.b (c.loop-a.k + 1)
ring_found c =
    cycle_task _ _ _ c.args.gone c.loop-a.tasks c.loop-a.cores _ _ _ c.loop-a.invariant.3 (core_found (goal.at.invariant_of-result-in-Some-place_of c).After-other-c)
    c.loop-a.invariant.4 c.loop-a.invariant.2 c.loop-a.invariant.0 c.in_default.ensures _
    (task_found (goal.at.invariant_of-result-in-Some-place_of c).After-other-u) c.loop-a.invariant.1 _ c.in-Some-place_of.ensures

pub returns-in-Some : goal.returns-in-Some
returns-in-Some c =
    cycle_core _ _ _ c.args.gone c.loop-a.tasks c.loop-a.cores _ _ _ c.loop-a.invariant.3 (core_found (goal.at.returns-in-Some c).After-other-c) c.loop-a.invariant.4
    c.loop-a.invariant.2 c.loop-a.invariant.0 _ c.in-Some.ensures

pub other-u-requires : goal.other-u-requires
other-u-requires c =
    let few = c.cores-by_core.ensures.few in
    let core = core_found (goal.at.other-u-requires c).After-other-c in
    on_side (λ n m x. (c.other-c.result < n) × (2 ≤ links m c.args.gone.tasks x c.other-c.result)) (sym few.0, sym few.1) (sym c.cores-by_core.ensures.same)
    (core.below, seek_task_links _ _ _ _ _ c.requires _ _ _ core)

pub invariant_of-result-in-Some-place_of : goal.invariant_of-result-in-Some-place_of
invariant_of-result-in-Some-place_of c =
    let ring = ring_found c in
    record {
      some = omega (arith, ring.two);
      places = omega (arith, c.loop-a.invariant.0);
      few_tasks = λ i a b. omega (arith, ring.tasks_below i a b, c.args.grid.few_tasks);
      few_cores = λ i a b. omega (arith, ring.cores_below i a b, c.args.grid.few_cores);
    }

pub returns-in-Some-place_of : goal.returns-in-Some-place_of
returns-in-Some-place_of c = ring_found (goal.at.returns-in-Some-place_of c).In-Some-place_of

pub loop-a-preserved : goal.loop-a-preserved
loop-a-preserved c =
    let core = core_found (goal.at.loop-a-preserved c).After-other-c in
    let way = cycle_more _ _ _ c.args.gone c.loop-a.tasks c.loop-a.cores _ _ _ c.loop-a.invariant.3 core c.loop-a.invariant.4 c.loop-a.invariant.2 c.loop-a.invariant.0
    c.in_default.ensures _ (task_found (goal.at.loop-a-preserved c).After-other-u) c.loop-a.invariant.1 c.in_default-place_of.ensures in (
      seek_short _ _ _ _ _ _ _ _ c.args.grid.few_cores way,
      simp length-set c.loop-a.invariant.1,
      simp length-set c.loop-a.invariant.2,
      way,
      came_next _ _ _ c.args.gone c.loop-a.tasks c.loop-a.cores _ _ _ c.loop-a.invariant.3 core c.loop-a.invariant.4 c.loop-a.invariant.2 c.loop-a.invariant.0,
    )
