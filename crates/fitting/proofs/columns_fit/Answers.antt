-- `fitting::columns_fit` meets its contract: one column after the other is held against the frame.
use Rattle.std.proofs.Common.{rules, refl, arith, leb}
use Rattle.std.proofs.lemmas.Iterator.{YieldsList-from_range}
use Rattle.std.proofs.lemmas.Iterator.Search.{all_from_yields_List}
use borrow.Author.Tests.{tests}
use Rattle.stretches.specs.Cell.{cell}
use Rattle.fitting.specs.Fitting.{column_of}
use Rattle.fitting.proofs.FittingLaws.{columns_told}
use Rattle.fitting.proofs.columns_fit.Goals as goal

pub returns : goal.returns
returns c =
    columns_told c.args.frame (column_of c.args.grid.tasks (cell c.args.grid.units.now)) c.args.grid.cores
    (all_from_yields_List (λ j. leb (column_of c.args.grid.tasks (cell c.args.grid.units.now) j) c.args.frame) _ _ _ c.all.ensures.ran
    (YieldsList-from_range 0 c.args.grid.cores c.args.grid.cores refl (omega arith)) (λ x b q k. search (rules, tests)))
