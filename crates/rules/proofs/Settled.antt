-- P1 to P10 hold, as one joint statement over their list.
-- Assumes nothing.
mod Sets
pub mod Accepted
pub mod Overloads
mod Lines
mod Steps
mod Bounds
pub mod Finishes
use Rattle.rules.specs.Settled.{settled, AllHold}
use Rattle.rules.proofs.Settled.Accepted.{allocation1, p1, p5, p7, p8}
use Rattle.rules.proofs.Settled.Overloads.{p2, total2, groups3, p3, p4, p6}
use Rattle.rules.proofs.Settled.Lines.{line1, line2, line8}
use Rattle.rules.proofs.Settled.Finishes.{moved1, finishes9, finishes10, paced10}

-- the settled examples P1 to P10, with the lines of P1, P2 and P8
pub settled_examples_hold : AllHold settled
settled_examples_hold =
    (allocation1, (p1, (line1, (moved1, (p2, (line2, (total2, (groups3, (p3, (p4, (p5, (p6, (p7, (p8, (line8, (finishes9, (finishes10, (paced10, tt))))))))))))))))))
