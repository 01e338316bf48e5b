use Rattle.std.proofs.Common.{rules, sym, ◌∙◌}
use Rattle.stretches.specs.Cell.{cell}
use Rattle.layout.proofs.WalkLaws.{walk_begin, walk_asks, walk_more, walk_done, next_is, next_some}
use Rattle.layout.proofs.walking.walk.Goals as goal
use Rattle.layout.proofs.walking.walk.Goals.{in-Some, in_default}

pub loop-c-init : goal.loop-c-init
loop-c-init c = walk_begin _ _ _

pub visit_core-requires : goal.visit_core-requires
visit_core-requires c =
    walk_asks _ _ _ _ _ _ c.requires c.loop-c-test.true c.loop-c.invariant
    (next_is _ _ _ _ _ _ c.loop-c-test.true c.loop-c.invariant (sym c.in-Some.is ∙ c.next_core.ensures c.args.grid.tasks (cell c.args.grid.units.now)))

pub loop-c-preserved : goal.loop-c-preserved
loop-c-preserved c =
    let next = c.next_core.ensures c.args.grid.tasks (cell c.args.grid.units.now) in
    elim c.match-next_core.branch [
      | in-Some w ↦
          rw w.walked-is
          (walk_more _ _ _ _ _ _ _ c.loop-c.invariant (next_is _ _ _ _ _ _ c.loop-c-test.true c.loop-c.invariant (sym w.in-Some.is ∙ next)) w.visit_core.ensures)
      | in_default w ↦ absurd (next_some _ _ _ _ _ c.loop-c-test.true c.loop-c.invariant (sym w.in_default.is ∙ next))
    ]

pub returns : goal.returns
returns c = search (walk_done, rules)
