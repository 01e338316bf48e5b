use Rattle.std.proofs.Common.{arith, refl}
use Rattle.table.proofs.Reading.{stretch_some}
use Rattle.moves.proofs.Rest.{next_inside}
use Rattle.walker.proofs.Gathering.{gathering_none, gathering_room, gathering_fits, gathering_less, gathering_more, gathering_done}
use Rattle.walker.proofs.span.gather.Goals as goal

pub loop-k-init : goal.loop-k-init
loop-k-init c = gathering_none _ _ _ c.requires.0 _ c.requires.1

pub unwrap-piece-requires : goal.unwrap-piece-requires
unwrap-piece-requires c = rw (stretch_some _ _ _ c.get.ensures (next_inside _ _ _ _ c.in-Some.ensures)) refl

pub bounds-spans-count : goal.bounds-spans-count
bounds-spans-count c = gathering_room _ _ _ c.requires.0 _ _ _ _ _ c.loop-k.invariant c.in-Some.ensures _ c.get.ensures c.unwrap-piece.ensures

pub overflow_add-from : goal.overflow_add-from
overflow_add-from c =
    omega (arith, gathering_fits _ _ _ c.requires.0 _ _ _ _ _ c.loop-k.invariant c.in-Some.ensures _ c.get.ensures c.unwrap-piece.ensures)

pub loop-k-smaller : goal.loop-k-smaller
loop-k-smaller c = gathering_less _ _ _ c.requires.0 _ _ _ _ _ c.loop-k.invariant c.in-Some.ensures _ c.get.ensures c.unwrap-piece.ensures

pub loop-k-preserved : goal.loop-k-preserved
loop-k-preserved c = gathering_more _ _ _ c.requires.0 _ _ _ _ _ c.loop-k.invariant c.in-Some.ensures _ c.get.ensures c.unwrap-piece.ensures

pub returns : goal.returns
returns c = gathering_done _ _ _ c.requires.0 _ _ _ c.loop-k.invariant c.in_default.ensures
