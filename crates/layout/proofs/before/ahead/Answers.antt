use Rattle.std.proofs.Common.{rules, ◌≡◌, ℕ, ◌+◌}
use Rattle.rules.specs.Layout.{ahead}
use Rattle.layout.specs.Ahead.{Gives, number_of}
use Rattle.layout.proofs.AheadLaws.{line_part, ahead_root, ahead_itself, ahead_after, whole_small, whole_fits}
use Rattle.layout.proofs.before.ahead.Goals as goal

pub sum_before-requires : goal.sum_before-requires
sum_before-requires g c = line_part c.requires.line c.requires.here

pub sum_before-requires-in-Some-2 : goal.sum_before-requires-in-Some-2
sum_before-requires-in-Some-2 g c = line_part c.requires.line c.requires.here

-- the units of the first, and those before without them
both : (g : _) (c : goal.After-sum_before-in-Some-2 g) (f : ℕ → ℕ) → Gives (λ k r. goal.F-post g c.args.unit k r) f → c.unit.result + c.sum_before-in-Some-2.result ≡ ahead (number_of c.args.first) f c.args.i
both g c f h = rw c.in-Some-2.is (ahead_after f c.in-Some-2.k c.args.i _ _ (λ e. c.if-k-i.false (cc e)) (h.given _ _ c.unit.ensures) (c.sum_before-in-Some-2.ensures f h))

pub overflow_add-result : goal.overflow_add-result
overflow_add-result g c = whole_fits _ c.requires (both g c _ c.requires.line.read)

pub returns-in-None : goal.returns-in-None
returns-in-None g c =
    let all : (f : ℕ → ℕ) → Gives (λ k r. goal.F-post g c.args.unit k r) f → c.sum_before.result ≡ ahead (number_of c.args.first) f c.args.i
    = λ f h. rw c.in-None.is (ahead_root f c.args.i _ (c.sum_before.ensures f h)) in
    record { value = all; small = whole_small _ c.requires (all _ c.requires.line.read) }

pub returns-in-Some : goal.returns-in-Some
returns-in-Some g c = record { value = λ f h. rw c.in-Some.is (ahead_itself f _ _ c.if-k-i.true); small = search rules }

pub returns-in-Some-2 : goal.returns-in-Some-2
returns-in-Some-2 g c = record { value = both g c; small = whole_small _ c.requires (both g c _ c.requires.line.read) }
