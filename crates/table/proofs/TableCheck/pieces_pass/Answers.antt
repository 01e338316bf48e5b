-- The pass over the pieces is the test at each of them.
use Rattle.std.proofs.Common.{rules, refl, ◌∙◌, ◌&&◌, arith}
use Rattle.std.proofs.lemmas.Iterator.{YieldsList-from_range}
use Rattle.std.proofs.lemmas.Iterator.Search.{all_from_yields_List}
use borrow.Author.Tests.{tests}
use Rattle.rules.specs.Piece.{piece_at, whole_pieces}
use Rattle.rules.specs.FrameTable.{sound}
use Rattle.table.specs.Read.{follows, passes}
use Rattle.table.proofs.All.{all_range}
use Rattle.table.proofs.TableCheck.pieces_pass.Goals as goal

pub returns : goal.returns
unfolding passes
returns c =
    all_from_yields_List (λ k. sound c.args.self.frame c.args.self.cores (piece_at c.args.self.table.now k) && follows c.args.self.table.now k) _ _ _ c.all.ensures.ran
    (YieldsList-from_range 0 (whole_pieces c.args.self.table.now) (whole_pieces c.args.self.table.now) refl (omega arith)) (λ x b q k. search (rules, tests))
    ∙ all_range (whole_pieces c.args.self.table.now) _
