-- Laws on each way out of the reading of a set's line.
-- Assumes nothing.
use mathlib.Core.Path.{◌≡◌, refl, sym, ◌∙◌, ap}
use mathlib.Core.Bool.{Bool, true, false, cond}
use mathlib.Core.Logic.{◌⊎◌, inl, inr}
use mathlib.Core.List.{List}
use Prim.Native.Nat.{ℕ, ◌+◌, ◌*◌, ◌≤◌, ◌<◌}
use native.Mathlib.Omega.{arith}
use lib.ListN.{length}
use Rattle.std.specs.Prelude.{Option, Some, None}
use Rattle.fields.proofs.FieldLaws.{digits_below}
use Rattle.setline.proofs.DecodeLaws.{written_length}
use Rattle.rules.specs.Line.{line_tasks, well_written}
use Rattle.setline.specs.Decoded.{Tasked, line_header, header_of}
use Rattle.setline.specs.ReadSet.{Room, ReadSet, read, refused}
use Rattle.setline.specs.declared.Header.{Header}

module _ (l b₀ m₀ : List ℕ) (o : Option Header) (said : o ≡ header_of l) where
  pub read_badly : o ≡ None → ReadSet l b₀ m₀ None b₀ m₀
  unfolding header_of
  read_badly e = refused (λ (room : Room l b₀ m₀). no_room room.written) refl refl refl
    where
      no_room : well_written l ≡ true → ⊥
      no_room g = let h : None ≡ Some (line_header l) = sym e ∙ said ∙ ap (λ (t : Bool). cond t (Some (line_header l)) None) g in cc

  module _ (h : Header) (some : o ≡ Some h) where
    well : (h ≡ line_header l) × (well_written l ≡ true)
    unfolding header_of
    well = of (well_written l) refl (sym some ∙ said)
      where
        of : (t : Bool) → t ≡ well_written l → Some h ≡ cond t (Some (line_header l)) None → (h ≡ line_header l) × (well_written l ≡ true)
        of true e g = (cc, sym e)
        of false e g = cc

    pub header_tasks : h.tasks ≡ line_tasks l
    header_tasks = ap (λ (x : Header). x.tasks) well.0

    pub header_room : (h.tasks < 256) × (2 * (6 + 6 * h.tasks) ≤ length l)
    header_room = (omega (arith, header_tasks, digits_below l 10 2), omega (arith, header_tasks, written_length l well.1))

    pub read_short : (length b₀ < h.tasks) ⊎ (length m₀ < h.tasks) → ReadSet l b₀ m₀ None b₀ m₀
    read_short s = refused (λ (room : Room l b₀ m₀). no_room s room.budgets room.masks) refl refl refl
      where
        no_room : (length b₀ < h.tasks) ⊎ (length m₀ < h.tasks) → line_tasks l ≤ length b₀ → line_tasks l ≤ length m₀ → ⊥
        no_room (inl s) eb em = omega (arith, header_tasks, s)
        no_room (inr s) eb em = omega (arith, header_tasks, s)

    pub read_whole : (b m : List ℕ) → h.tasks ≤ length b₀ → h.tasks ≤ length m₀ → Tasked l h.tasks b₀ b m₀ m → ReadSet l b₀ m₀ (Some h) b m
    read_whole b m eb em t =
        read (record { written = well.1; budgets = omega (arith, header_tasks, eb); masks = omega (arith, header_tasks, em) })
        (ap Some well.0)
        (t.budgets ∙ simp header_tasks)
        (t.masks ∙ simp header_tasks)
