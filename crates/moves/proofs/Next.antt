-- The search for the next piece, as the loop runs it.
-- Assumes nothing.
use mathlib.Core.Path.{◌≡◌}
use mathlib.Core.Bool.{true, false}
use mathlib.Core.List.{List}
use Prim.Native.Nat.{ℕ, ◌+◌, ◌≤◌, ◌<◌}
use native.Mathlib.Numerals.{add-one}
use lib.Dec.{ltb}
use borrow.Author.Tests.{le-leb, lt-leb, eq-eqb, ne_eqb}
use Rattle.std.specs.Prelude.{Option, None, Some}
use Rattle.rules.specs.Piece.{piece_at}
use Rattle.moves.specs.Next.{sooner, next_to}

module _ (l : List ℕ) (task from : ℕ) (best : Option ℕ) (k : ℕ) where
  pub sooner_task : ((piece_at l k).task ≡ task → ⊥) → sooner l task from best k ≡ false
  unfolding sooner
  sooner_task h = rw (ne_eqb _ _ h)

  module _ (own : (piece_at l k).task ≡ task) where
    pub sooner_early : (piece_at l k).start < from → sooner l task from best k ≡ false
    unfolding sooner
    sooner_early h = rw (eq-eqb _ _ own, lt-leb _ _ h)

    module _ (late : from ≤ (piece_at l k).start) where
      pub sooner_first : best ≡ None → sooner l task from best k ≡ true
      unfolding sooner
      sooner_first e = rw (eq-eqb _ _ own, le-leb _ _ late, e)

      pub sooner_start : (b : ℕ) → best ≡ Some b → sooner l task from best k ≡ ltb (piece_at l k).start (piece_at l b).start
      unfolding sooner
      sooner_start b e = rw (eq-eqb _ _ own, le-leb _ _ late, e)

  module _ (so_far : best ≡ next_to l task from k) where
    pub next_better : sooner l task from best k ≡ true → Some k ≡ next_to l task from (k + 1)
    unfolding next_to
    next_better y = rw (add-one k, ← so_far, y)

    pub next_same : sooner l task from best k ≡ false → best ≡ next_to l task from (k + 1)
    unfolding next_to
    next_same y = rw (add-one k, ← so_far, y)
