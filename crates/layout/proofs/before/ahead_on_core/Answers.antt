-- `before::ahead_on_core` meets its contract: the tasks of a core are a column.
use Rattle.std.proofs.Common.{rules, sym}
use Rattle.stretches.specs.Cell.{cell}
use Rattle.layout.proofs.AheadLaws.{widened}
use Rattle.layout.proofs.before.ahead_on_core.Goals as goal

pub ahead-requires : goal.ahead-requires
ahead-requires c =
    record {
      long = c.args.grid.tasks;
      line = record { units = λ i. cell c.args.grid.units.now i c.args.core; asked = λ k l. search rules; read = record { given = λ k r e. search rules }; small = c.requires.3 };
      first_in = rw (widened _ _ c.map.ensures.cases) c.requires.2;
      here = c.requires.1;
    }

pub returns : goal.returns
returns c =
    rw (sym (widened _ _ c.map.ensures.cases)) (c.ahead.ensures.value (λ i. cell c.args.grid.units.now i c.args.core) (record { given = λ k r e. search rules }), c.ahead.ensures.small)
