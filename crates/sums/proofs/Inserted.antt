-- A piece that is put into a list that goes by start.
-- Assumes nothing.
use mathlib.Core.Path.{◌≡◌, refl, ◌∙◌, ap}
use mathlib.Core.List.{List, [], ◌∷◌}
use Prim.Native.Nat.{suc, ◌≤◌, ◌<◌}
use native.Mathlib.Decide.{dec_le}
use native.Mathlib.Omega.{arith}
use borrow.Author.Tests.{le-leb, lt-leb}
use lib.ListN.{length}
use Rattle.rules.specs.Piece.{Piece}
use Rattle.rules.specs.Moves.{insert}

pub insert_later : (p q : Piece) (l : List Piece) → q.start ≤ p.start → insert p (q ∷ l) ≡ q ∷ insert p l
unfolding insert
insert_later p q l h = rw (le-leb q.start p.start h, insert)

pub insert_here : (p q : Piece) (l : List Piece) → p.start < q.start → insert p (q ∷ l) ≡ p ∷ q ∷ l
unfolding insert
insert_here p q l h = rw (lt-leb q.start p.start h, insert)

pub length_insert : (p : Piece) (l : List Piece) → length (insert p l) ≡ suc (length l)
unfolding insert
length_insert p [] = refl
length_insert p (q ∷ l) =
    elim (dec_le q.start p.start) [
      | yes a ↦ ap length (insert_later p q l a) ∙ ap suc (length_insert p l)
      | no a ↦ ap length (insert_here p q l (omega arith))
    ]
