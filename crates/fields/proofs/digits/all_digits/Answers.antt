-- `fields::digits::all_digits` meets its contract: the chain tests each byte.
use Rattle.std.proofs.Common.{rules, tests, ◌∙◌}
use Rattle.std.proofs.lemmas.Iterator.{YieldsList-from_slice}
use Rattle.std.proofs.lemmas.Iterator.Search.{all_from_yields_List}
use Rattle.rules.specs.Line.{is_digit}
use Rattle.fields.proofs.DigitLaws.{all_list}
use Rattle.fields.proofs.digits.all_digits.Goals as goal

pub returns : goal.returns
returns c =
    all_from_yields_List is_digit _ _ _ c.all.ensures.ran (YieldsList-from_slice c.args.line.now cc) (λ x b q k. search (rules, tests)) ∙ all_list c.args.line.now
