-- The line feed is the first, so the bytes before it are the line's.
use Rattle.std.proofs.Common.{List, ℕ, sym, ap, ◌∙◌}
use Rattle.stream.specs.Taking.{taking}
use Rattle.stream.proofs.TakeLaws.{rest_of, taken_whole, taken_begun}
use Rattle.stream.proofs.line.take_line.Goals as goal

pub returns-in-Some : goal.returns-in-Some
returns-in-Some c =
    taken_whole _ _ _ _ _ _ _ (sym c.first_feed.ensures ∙ c.in-Some.is) c.keep.ensures
    ∙ ap (λ (t : List ℕ). taking t c.args.from c.args.line.now c.args.len) (rest_of _ _ _ c.min.ensures)

pub returns-in-None : goal.returns-in-None
returns-in-None c =
    taken_begun _ _ _ _ _ _ (sym c.first_feed.ensures ∙ c.in-None.is) c.keep-in-None.ensures
    ∙ ap (λ (t : List ℕ). taking t c.args.from c.args.line.now c.args.len) (rest_of _ _ _ c.min.ensures)
