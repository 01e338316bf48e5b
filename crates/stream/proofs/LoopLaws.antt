-- Laws on a program's loop over the chunks of its input: whether a line is begun is told by `begun` and by what is kept of it, and both say
-- the same once a chunk is taken.
-- Assumes nothing.
use mathlib.Core.Path.{◌≡◌, refl, sym, subst, ◌∙◌, ap}
use mathlib.Core.Bool.{true, false, not}
use mathlib.Core.List.{List, [], ◌∷◌, ◌++◌}
use Prim.Native.Nat.{ℕ, suc, ◌-◌, ◌≤◌, ◌<◌}
use native.Mathlib.Decide.{dec_lt, ℕ_discrete}
use native.Mathlib.Omega.{arith}
use lib.Dec.{ltb, eqb}
use lib.ListN.{length, get_or, take, drop, length-take, length-drop}
use lib.Seq.{take_all, take-suc, get_or-take, get_or-drop}
use borrow.Author.Tests.{lt-ltb, le-ltb, ltb-false, eq-eqb, ne_eqb}
use Rattle.stream.specs.Lines.{Lines, Holds, Fed}
use Rattle.stream.specs.Reading.{started, ahead, last_begins, stopped_at, Last, none_begun, given_its_feed, no_place, Read, came, ended, failed, stopped, Next, rest, read, Handed, Passed, written, lost, Ended}
use Rattle.stream.specs.declared.input.Source.{Source}
use Rattle.stream.specs.declared.line.Stage.{Stage}
use Rattle.stream.proofs.ReadLaws.{turn_less}
use Rattle.stream.proofs.Chunks.{left_begun, left_none}

-- before a chunk is asked for: what is left of the last one is in the buffer, and `begun` tells of its last byte; once it is taken, a byte is kept
-- exactly if a line is begun; and after the line feed that a last line was given, none is
pub record Standing (input : List ℕ) (s : Source) (len : ℕ) : Type 0 where
  pub within : s.end ≤ length input
  pub chunk : s.at < s.end → s.begun ≡ last_begins input s.end
  pub line : s.unwritten ≡ false → s.end ≤ s.at → s.begun ≡ ltb 0 len
  pub last : s.unwritten ≡ false → s.left ≡ 0 → s.begun ≡ false

-- a chunk that is handed out: the same of it
pub record Opened (input : List ℕ) (s : Source) : Type 0 where
  pub some : s.at < s.end
  pub within : s.end ≤ length input
  pub chunk : s.begun ≡ last_begins input s.end
  pub last : s.unwritten ≡ false → s.left ≡ 0 → s.begun ≡ false

pub no_false : {P : Type 0} → true ≡ false → P
no_false e = let z : ◌≡◌ {A = ℕ} 0 1 = cc in absurd (omega arith)

-- before the first byte
pub standing_start : (input : List ℕ) (s : Source) → s ≡ started → Standing input s 0
standing_start input s e = subst (λ (x : Source). Standing input x 0) (sym e) (record { within = omega arith; chunk = λ h. absurd (omega arith); line = λ u h. refl; last = λ u h. refl })

-- a chunk
module _ (input : List ℕ) (s r : Source) (some : r.at ≡ r.end → ⊥) where
  opened_last : Last s input r → Opened input r
  opened_last (none_begun b e) = absurd (some (rw e refl))
  opened_last (given_its_feed b h f e) = subst (Opened input) (sym e) (record { some = omega arith; within = h; chunk = sym (ap not (eq-eqb (get_or input 0 0) 10 f)); last = λ u l. refl })
  opened_last (no_place b h e) = absurd (some (rw e refl))

  opened_read : Read s input r → Opened input r
  opened_read (came n h g f e) = subst (Opened input) (sym e) (record { some = h; within = f; chunk = refl; last = λ u l. absurd (omega arith) })
  opened_read (ended h l) = opened_last l
  opened_read (failed e) = absurd (some (rw e refl))
  opened_read (stopped h e) = absurd (some (rw e refl))

  pub opened : (was : List ℕ) (len : ℕ) → Standing was s len → Handed s was input r → Opened input r
  opened was len q h = of h.next
    where
      of : Next s was input r → Opened input r
      of (rest f g e d) = subst (λ (x : Source). Opened input x) (sym e) (subst (λ (x : List ℕ). Opened x s) (sym d) (record { some = f; within = g; chunk = q.chunk f; last = q.last }))
      of (read f l) = opened_read l

-- the end of the input
module _ (was input : List ℕ) (s r : Source) (len : ℕ) (q : Standing was s len) (place : 0 < length input) (none : r.at ≡ r.end) where
  ended_none : s.end ≤ s.at → s.begun ≡ false → r ≡ stopped_at s → Ended r len
  ended_none h b e =
      subst (λ (x : Source). Ended x len) (sym e)
      (record { nothing_comes = refl; nothing_left = refl; told = λ u. q.line u h; answered = λ v u. omega (arith, ltb-false 0 len (sym (q.line u h) ∙ b)) })

  ended_last : s.end ≤ s.at → Last s input r → Ended r len
  ended_last h (none_begun b e) = ended_none h b e
  ended_last h (given_its_feed b g f e) = let z : ◌≡◌ {A = ℕ} 0 1 = sym (ap (λ (x : Source). x.at) e) ∙ none ∙ ap (λ (x : Source). x.end) e in absurd (omega arith)
  ended_last h (no_place b g e) = absurd (omega arith)

  ended_read : s.end ≤ s.at → Read s input r → Ended r len
  ended_read h (came n g f d e) = let z : ◌≡◌ {A = ℕ} 0 n = sym (ap (λ (x : Source). x.at) e) ∙ none ∙ ap (λ (x : Source). x.end) e in absurd (omega arith)
  ended_read h (ended some l) = ended_last h l
  ended_read h (failed e) =
      subst (λ (x : Source). Ended x len) (sym e)
      (record { nothing_comes = refl; nothing_left = refl; told = λ u. q.line u h; answered = λ v u. no_false v })
  ended_read h (stopped g e) =
      subst (λ (x : Source). Ended x len) (sym e)
      (record { nothing_comes = refl; nothing_left = refl; told = λ u. q.line u h; answered = λ v u. omega (arith, ltb-false 0 len (sym (q.line u h) ∙ q.last u g)) })

  pub all_taken : Handed s was input r → Ended r len
  all_taken h = of h.next
    where
      of : Next s was input r → Ended r len
      of (rest f g e d) = let z : s.at ≡ s.end = sym (ap (λ (x : Source). x.at) e) ∙ none ∙ ap (λ (x : Source). x.end) e in absurd (omega arith)
      of (read f l) = ended_read (elim (dec_lt s.at s.end) [ yes y ↦ absurd (f y q.within) | no n ↦ omega arith ]) l

-- a text that is taken whole leaves a line begun exactly if its last byte is no line feed
last_split : (t : List ℕ) → 0 < length t → t ≡ take (length t - 1) t ++ (get_or t (length t - 1) 0 ∷ [])
last_split t h = sym (take_all (suc (length t - 1)) t (omega arith)) ∙ take-suc t (length t - 1) 0 (omega arith)

-- a byte of a line is kept exactly if it has one
holds_some : (buffer : List ℕ) (len : ℕ) (k : List ℕ) → 0 < length buffer → Holds buffer len k → ltb 0 (length k) ≡ ltb 0 len
holds_some buffer len k h g =
    elim (dec_lt 0 len) [
      | yes p ↦ lt-ltb 0 (length k) (omega (arith, g.count)) ∙ sym (lt-ltb 0 len p)
      | no np ↦ le-ltb 0 (length k) (omega (arith, g.count)) ∙ sym (le-ltb 0 len (omega arith))
    ]

-- the bytes that are kept are those of some line
holds_itself : (buffer : List ℕ) (len : ℕ) → len ≤ length buffer → Holds buffer len (take len buffer)
holds_itself buffer len h =
    record { count = simp length-take (omega arith); bytes = sym (take_all (length buffer) (take len buffer) (simp length-take (omega arith))) }

module _ {A : List ℕ → List ℕ → Type 0} where
  lines_begun : {l t o k : List ℕ} → Lines A l t o k → 0 < length t → last_begins t (length t) ≡ ltb 0 (length k)
  lines_begun {l} {t} {o} {k} q h =
      let e = subst (λ (x : List ℕ). Lines A l x o k) (last_split t h) q in
      elim (ℕ_discrete (get_or t (length t - 1) 0) 10) [
        | yes f ↦ ap not (eq-eqb (get_or t (length t - 1) 0) 10 f) ∙ sym (le-ltb 0 (length k) (omega (arith, left_none (take (length t - 1) t) (get_or t (length t - 1) 0) e f)))
        | no nf ↦ ap not (ne_eqb (get_or t (length t - 1) 0) 10 nf) ∙ sym (lt-ltb 0 (length k) (left_begun (take (length t - 1) t) (get_or t (length t - 1) 0) e nf))
      ]

  fed_begun : (chunk buffer : List ℕ) (len : ℕ) (out : List ℕ) (used : ℕ) (buffer₁ out₁ : List ℕ) (r : Stage)
      → len ≤ length buffer
      → 0 < length buffer₁
      → 0 < length chunk
      → length chunk ≤ r.taken
      → Fed A chunk buffer len out used buffer₁ out₁ r
      → last_begins chunk (length chunk) ≡ ltb 0 r.len
  fed_begun chunk buffer len out used buffer₁ out₁ r fits place some whole f =
      let g = f.fed (take len buffer) (holds_itself buffer len fits) in
      lines_begun (subst (λ (x : List ℕ). Lines A (take len buffer) x g.answers g.begun) (take_all r.taken chunk whole) g.lines) some
      ∙ holds_some buffer₁ r.len g.begun place g.holds

-- the bytes of a buffer from one place to another, and the last of them
module _ (input : List ℕ) (at end : ℕ) (some : at < end) (within : end ≤ length input) where
  part_long : length (take (end - at) (drop at input)) ≡ end - at
  part_long = simp (length-take, length-drop) (omega arith)

  part_last : last_begins input end ≡ last_begins (take (end - at) (drop at input)) (length (take (end - at) (drop at input)))
  part_last =
      ap (λ (n : ℕ). not (eqb (get_or input n 0) 10)) (omega arith)
      ∙ ap (λ (b : ℕ). not (eqb b 10)) (sym (get_or-drop at input (end - at - 1) 0) ∙ sym (get_or-take (end - at) (drop at input) (end - at - 1) 0 (omega arith)))
      ∙ ap (λ (n : ℕ). last_begins (take (end - at) (drop at input)) n) (sym part_long)

-- the chunk was fed, and its answers were passed on
module _ {A : List ℕ → List ℕ → Type 0} (input : List ℕ) (s r : Source) (buffer : List ℕ) (len : ℕ) (out : List ℕ) (used : ℕ) (buffer₁ out₁ : List ℕ) (g : Stage) where
  pub standing_again : (buffer₀ : List ℕ) → Opened input s
      → len ≤ length buffer₀
      → 0 < length buffer₀
      → length buffer ≡ length buffer₀
      → length buffer₁ ≡ length buffer
      → Fed A (take (s.end - s.at) (drop s.at input)) buffer len out used buffer₁ out₁ g
      → Passed s g.taken r
      → Standing input r g.len
  standing_again buffer₀ o fits place whole same f (written e) =
      subst (λ (x : Source). Standing input x g.len) (sym e)
      (record {
        within = o.within;
        chunk = λ h. o.chunk;
        line = λ u h. o.chunk ∙ part_last input s.at s.end o.some o.within ∙ fed_begun _ _ _ _ _ _ _ _ (omega (arith, fits, whole)) (omega (arith, place, whole, same)) (omega (arith, o.some, long o)) (omega (arith, h, o.some, long o)) f;
        last = o.last;
      })
    where
      long : Opened input s → length (take (s.end - s.at) (drop s.at input)) ≡ s.end - s.at
      long o = part_long input s.at s.end o.some o.within
  standing_again buffer₀ o fits place whole same f (lost e) =
      subst (λ (x : Source). Standing input x g.len) (sym e)
      (record { within = o.within; chunk = λ h. absurd (omega arith); line = λ u h. no_false u; last = λ u h. no_false u })

-- of a chunk that is not empty a byte at least was fed
pub fed_some : {A : List ℕ → List ℕ → Type 0} {was input buffer out buffer₁ out₁ : List ℕ} {s t : Source} {len used : ℕ} {g : Stage} → Handed t was input s
    → (s.at ≡ s.end → ⊥) → Fed A (take (s.end - s.at) (drop s.at input)) buffer len out used buffer₁ out₁ g → 1 ≤ g.taken
fed_some {input = input} {s = s} h ne f = omega (arith, f.some, part_long input s.at s.end (omega (arith, h.order)) h.within)

-- so fewer may still be taken after it
pub taken_less : {was input : List ℕ} {s t r : Source} (taken : ℕ) → Handed t was input s → (s.at ≡ s.end → ⊥) → 1 ≤ taken → Passed s taken r
    → ahead r < ahead t
taken_less {s = s} {t = t} {r = r} taken h ne one p = turn_less t s r taken h.no_more h.order ne one p
