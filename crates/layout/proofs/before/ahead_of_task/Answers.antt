-- `before::ahead_of_task` meets its contract: the cores of a task are a row.
use Rattle.std.proofs.Common.{rules, arith}
use Rattle.stretches.specs.Cell.{cell}
use Rattle.layout.proofs.before.ahead_of_task.Goals as goal

pub ahead-requires : goal.ahead-requires
ahead-requires c =
    record {
      long = c.args.grid.cores;
      line = record { units = cell c.args.grid.units.now c.args.task; asked = λ k l. search rules; read = record { given = λ k r e. search rules }; small = c.requires.3 };
      first_in = omega (arith, c.requires.2);
      here = c.requires.1;
    }

pub returns : goal.returns
returns c = (c.ahead.ensures.value (cell c.args.grid.units.now c.args.task) (record { given = λ k r e. search rules }), c.ahead.ensures.small)
