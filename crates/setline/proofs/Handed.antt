-- What a caller of `read_set` has: the line's set, or, where the two lists have room for the tasks of any line, a line that is not well written.
-- Assumes nothing.
use mathlib.Core.Path.{◌≡◌, refl, sym, ◌∙◌, ap}
use mathlib.Core.Bool.{Bool, true, false}
use mathlib.Core.List.{List}
use Prim.Native.Nat.{ℕ, ◌≤◌}
use native.Mathlib.Omega.{arith}
use lib.ListN.{length, take, drop}
use lib.Seq.{take_at}
use Rattle.rules.specs.Line.{line_frame, line_cores, line_tasks, line_budgets, line_masks, well_written}
use Rattle.setline.specs.ReadSet.{ReadSet, read, refused}
use Rattle.std.specs.Prelude.{Some, None}
use Rattle.setline.specs.Decoded.{line_header}
use Rattle.setline.specs.declared.Header.{Header}
use Rattle.fields.proofs.FieldLaws.{digits_below}
use Rattle.setline.proofs.DecodeLaws.{length_tasks}

-- a set was read: the line is well written, and the set is the line's
pub record LineRead (l : List ℕ) (F m n : ℕ) (b k : List ℕ) : Type 0 where
  pub well : well_written l ≡ true
  pub frame : F ≡ line_frame l
  pub cores : m ≡ line_cores l
  pub budgets : take n b ≡ line_budgets l
  pub masks : take n k ≡ line_masks l
  pub few : n ≤ 255
  pub budgets_count : n ≡ length (take n b)
  pub masks_count : n ≡ length (take n k)

module _ (l b₀ k₀ b k : List ℕ) where
  pub set_read : (h : Header) → ReadSet l b₀ k₀ (Some h) b k → LineRead l h.frame h.cores h.tasks b k
  set_read h (read room e eb ek) =
      let whole : h ≡ line_header l = cc in
      let same : h.tasks ≡ line_tasks l = ap (λ (x : Header). x.tasks) whole in
      let hb : take h.tasks b ≡ line_budgets l = ap (λ (i : ℕ). take i b) same ∙ ap (take (line_tasks l)) eb ∙ take_at (line_budgets l) (drop (line_tasks l) b₀) (line_tasks l) (length_tasks l 0 4 (line_tasks l)) in
      let hk : take h.tasks k ≡ line_masks l = ap (λ (i : ℕ). take i k) same ∙ ap (take (line_tasks l)) ek ∙ take_at (line_masks l) (drop (line_tasks l) k₀) (line_tasks l) (length_tasks l 4 2 (line_tasks l)) in
      record {
        well = room.written;
        frame = ap (λ (x : Header). x.frame) whole;
        cores = ap (λ (x : Header). x.cores) whole;
        budgets = hb;
        masks = hk;
        few = omega (arith, same, digits_below l 10 2);
        budgets_count = same ∙ sym (ap length hb ∙ length_tasks l 0 4 (line_tasks l));
        masks_count = same ∙ sym (ap length hk ∙ length_tasks l 4 2 (line_tasks l));
      }
  set_read h (refused bar e eb ek) = cc

  pub not_read : 255 ≤ length b₀ → 255 ≤ length k₀ → ReadSet l b₀ k₀ None b k → well_written l ≡ false
  not_read hb hk (read room e eb ek) = cc
  not_read hb hk (refused bar e eb ek) = badly (well_written l) refl
    where
      badly : (t : Bool) → t ≡ well_written l → well_written l ≡ false
      badly false p = sym p
      badly true p = absurd (bar (record { written = sym p; budgets = omega (arith, hb, digits_below l 10 2); masks = omega (arith, hk, digits_below l 10 2) }))
