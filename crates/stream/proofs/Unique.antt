-- Any two answers that a contract of this crate allows for one input are equal, and so is what it leaves in lent memory.
-- Assumes nothing.
use mathlib.Core.Path.{◌≡◌, sym, ◌∙◌, ap}
use mathlib.Core.List.{List}
use Prim.Native.Nat.{ℕ}
use lib.ListN.{drop}
use Rattle.stream.specs.Taking.{taking}
use Rattle.stream.specs.Reading.{started}
use Rattle.stream.specs.declared.line.Taken.{Taken}
use Rattle.stream.specs.declared.input.Source.{Source}

pub take_line_unique : (chunk : List ℕ) (from : ℕ) (line : List ℕ) (len : ℕ) (a b : Taken) (x y : List ℕ)
    → (a, x) ≡ taking (drop from chunk) from line len
    → (b, y) ≡ taking (drop from chunk) from line len
    → (a ≡ b) × (x ≡ y)
take_line_unique chunk from line len a b x y p q = (ap (λ (w : Taken × List ℕ). w.0) (p ∙ sym q), ap (λ (w : Taken × List ℕ). w.1) (p ∙ sym q))

pub start_unique : (a b : Source) → a ≡ started → b ≡ started → a ≡ b
start_unique a b p q = p ∙ sym q
