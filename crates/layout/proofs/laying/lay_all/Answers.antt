-- `laying::lay_all` meets its contract: the walk gives the starts, and the pieces of all cores make the table.
use Rattle.std.proofs.Common.{rules}
use Rattle.layout.proofs.LayOutLaws.{out_done, out_asks}
use Rattle.layout.proofs.laying.lay_all.Goals as goal

pub lay_cores-requires : goal.lay_cores-requires
lay_cores-requires c = search (out_asks, rules)

pub returns : goal.returns
returns c = out_done _ _ _ c.args.grid.units.now _ c.requires _ c.walk-walked.ensures _ c.args.table.now c.lay_cores.new.table c.lay_cores.ensures
