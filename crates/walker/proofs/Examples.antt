-- The premises of the finish bound can be met: P10 meets them, and the bound then holds of every answer of walk.
-- P9 and P10 themselves, and "the first passes 13 but not 19", stand among the rules' settled examples.
-- Assumes nothing.
use mathlib.Core.List.{[], ◌∷◌}
use Rattle.rules.specs.Piece.{pieces_of}
use Rattle.rules.specs.Service.{units}
use Rattle.rules.specs.Paced.{Paced, Bounded}
use Rattle.rules.specs.Plan.{at}
use Rattle.rules.specs.Settled.{EachWalk, tableP1}
use Rattle.rules.proofs.Settled.Finishes.{finishes10, paced10}
use Rattle.walker.proofs.Accepted.{walked_bounded}

-- "With T 9 and c 6": the premises hold of P10's table, task and jobs, and by the general bound so does what it says
pub example_P10_bounded :
    Paced 6 (units 6 (pieces_of tableP1) 0 6) 9 6 2 (at (4 ∷ 13 ∷ [])) (at (6 ∷ 6 ∷ [])) ×
    EachWalk 6 2 tableP1 0 (4 ∷ 13 ∷ []) (6 ∷ 6 ∷ []) (λ before r after. Bounded 6 9 2 (at (4 ∷ 13 ∷ [])) (at after))
example_P10_bounded = (premises, bounded)
  where
    premises : Paced 6 (units 6 (pieces_of tableP1) 0 6) 9 6 2 (at (4 ∷ 13 ∷ [])) (at (6 ∷ 6 ∷ []))
    premises = paced10.premises

    bounded : EachWalk 6 2 tableP1 0 (4 ∷ 13 ∷ []) (6 ∷ 6 ∷ []) (λ before r after. Bounded 6 9 2 (at (4 ∷ 13 ∷ [])) (at after))
    bounded before room r after w =
        walked_bounded 6 2 tableP1 0 (4 ∷ 13 ∷ []) (6 ∷ 6 ∷ []) before r after w (finishes10.only before room r after w).0 9 6 premises
