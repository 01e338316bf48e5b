-- Any two answers that a public function's statement allows are equal: each states its answer, or the later contents of what it is lent, by one definition.
-- Assumes nothing.
use mathlib.Core.Path.{◌≡◌, sym, ◌∙◌}
use mathlib.Core.Bool.{Bool}
use mathlib.Core.List.{List}
use Prim.Native.Nat.{ℕ}
use denote.Ref.{Bor}
use Rattle.rules.specs.Line.{all_digits}
use Rattle.fields.specs.Held.{held_field}
use Rattle.fields.specs.Pasted.{put_field}
use Rattle.fields.specs.Reading.{started, taken}
use Rattle.fields.specs.declared.reader.Reader.{Reader}

pub all_digits_agree : (l : List ℕ) (r s : Bool) → r ≡ all_digits l → s ≡ all_digits l → r ≡ s
all_digits_agree l r s e g = e ∙ sym g

pub field_at_agree : (l : List ℕ) (p w r s : ℕ) → r ≡ held_field l p w → s ≡ held_field l p w → r ≡ s
field_at_agree l p w r s e g = e ∙ sym g

-- the later contents of the output
pub put_field_agree : (o : List ℕ) (p w v : ℕ) (a b : List ℕ) → a ≡ put_field o p w v → b ≡ put_field o p w v → a ≡ b
put_field_agree o p w v a b e g = e ∙ sym g

pub start_agree : (l : Bor (List ℕ)) (p : ℕ) (r s : Reader) → r ≡ started l p → s ≡ started l p → r ≡ s
start_agree l p r s e g = e ∙ sym g

pub take_agree : (r : Reader) (w : ℕ) (s q : Reader) → s ≡ taken r w → q ≡ taken r w → s ≡ q
take_agree r w s q e g = e ∙ sym g
