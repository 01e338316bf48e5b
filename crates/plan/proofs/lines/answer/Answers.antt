-- The call has 1,906 bytes of the output, so what it writes leaves room for the line feed.
use Rattle.std.proofs.Common.{ℕ, arith, length-append, length-take, length-drop}
use Rattle.plan.proofs.LineLaws.{wrote_few, answer_line}
use Rattle.plan.proofs.lines.answer.Goals as goal

pub slice_bounds-aurhennig_plan_line-end-2 : goal.slice_bounds-aurhennig_plan_line-end-2
slice_bounds-aurhennig_plan_line-end-2 c = omega (arith, length-take {A = ℕ})

pub bounds-out-wrote : goal.bounds-out-wrote
bounds-out-wrote c =
    omega (arith, wrote_few _ _ _ _ c.requires c.aurhennig_plan_line-wrote.auto.output c.aurhennig_plan_line-wrote.ensures, length-append {A = ℕ}, length-drop {A = ℕ}, length-take {A = ℕ}, c.aurhennig_plan_line-wrote.auto.output)

pub overflow_add-result : goal.overflow_add-result
overflow_add-result c = omega (arith, wrote_few _ _ _ _ c.requires c.aurhennig_plan_line-wrote.auto.output c.aurhennig_plan_line-wrote.ensures)

pub returns-clause-few : goal.returns-clause-few
returns-clause-few c = omega (arith, wrote_few _ _ _ _ c.requires c.aurhennig_plan_line-wrote.auto.output c.aurhennig_plan_line-wrote.ensures)

pub returns-clause-answered : goal.returns-clause-answered
returns-clause-answered c = answer_line _ _ _ _ c.requires c.aurhennig_plan_line-wrote.auto.output c.aurhennig_plan_line-wrote.ensures
