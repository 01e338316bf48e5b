-- `Walked::next_core` meets its contract: a core that waits, or else one that is left.
use Rattle.std.proofs.Common.{rules, arith, sym, ◌∙◌}
use native.Mathlib.Decide.{dec_lt}
use Rattle.rules.specs.Sum.{lowest}
use Rattle.layout.specs.Walking.{left_of}
use Rattle.layout.proofs.WalkLaws.{below_in, below_out, next_waiting, next_left}
use Rattle.layout.proofs.walking.Walked.next_core.Goals as goal

pub returns : goal.returns
returns c =
    let s = c.args.self.now in
    λ n x.
    elim (dec_lt (lowest c.args.cores (left_of s.reached s.visited)) c.args.cores) [
      | yes l ↦ (rw (c.first_left.ensures ∙ sym (below_in _ _ l)) at c.or_else.ensures) ∙ next_waiting n c.args.cores x s l
      | no g ↦
          let p = rw (c.first_left.ensures ∙ sym (below_out _ _ (omega arith))) at c.or_else.ensures in next_left n c.args.cores x s {r = c.or_else.result} (omega arith) c.requires (search rules)
    ]
