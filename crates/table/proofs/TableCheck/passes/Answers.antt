-- The pass over the pieces before is the test at each of them.
use Rattle.std.proofs.Common.{rules, ◌≡◌, refl, sym, ap, ◌∙◌, ◌&&◌, arith, true, Bool}
use Rattle.std.proofs.lemmas.Iterator.{YieldsList-from_range}
use Rattle.std.proofs.lemmas.Iterator.Search.{all_from_yields_List}
use borrow.Author.Tests.{tests}
use Rattle.rules.specs.Piece.{piece_at}
use Rattle.rules.specs.FrameTable.{sound}
use Rattle.table.specs.Read.{together, follows}
use Rattle.table.proofs.All.{all_range}
use Rattle.table.proofs.TableCheck.passes.Goals as goal

pub returns-then-is_sound : goal.returns-then-is_sound
unfolding follows
returns-then-is_sound c =
    all_from_yields_List (λ j. together (piece_at c.args.self.table.now j) (piece_at c.args.self.table.now c.args.k)) _ _ _ c.all.ensures.ran
    (YieldsList-from_range 0 c.args.k c.args.k refl (omega arith)) (λ x b q k. search (rules, tests))
    ∙ all_range c.args.k _ ∙ ap (λ (s : Bool). s && follows c.args.self.table.now c.args.k) (sym is)
  where
    is : sound c.args.self.frame c.args.self.cores (piece_at c.args.self.table.now c.args.k) ≡ true
    is = search (rules, tests)
