use Rattle.std.proofs.Common.{rules, ◌∙◌}
use Rattle.std.proofs.lemmas.Iterator.{YieldsList-from_slice, YieldsList-from_map}
use Rattle.std.proofs.lemmas.Iterator.Consumers.{sum_from_yields_List}
use Rattle.walker.proofs.Loops.{part_of, parts_sum}
use Rattle.walker.proofs.span.served.Goals as goal

pub returns : goal.returns
returns c =
    sum_from_yields_List c.map.result _ c.sum.ensures.ran
    (YieldsList-from_map _ (part_of c.args.r) (YieldsList-from_slice c.args.spans.now (cc)) c.map.ensures.closure (λ x r q k. search rules))
    ∙ parts_sum c.args.spans.now c.args.r
