-- Laws on a text that is taken line by line, for any answers A: what a program's step over a chunk shows by its own answer's contract.
-- Assumes nothing.
use mathlib.Core.Path.{◌≡◌, refl, sym, subst, ◌∙◌, ap}
use mathlib.Core.List.{List, [], ◌∷◌, ◌++◌, append_assoc, append-nil}
use Prim.Native.Nat.{ℕ, zero, suc, ◌+◌, ◌-◌, ◌*◌, ◌≤◌, ◌<◌, min, max}
use native.Mathlib.Decide.{dec_lt, ℕ_discrete}
use native.Mathlib.Numerals.{add-one}
use native.Mathlib.Omega.{arith}
use lib.ListN.{length, get_or, take, drop, set, length-append, length-set, length-take, length-drop, take-append-drop, drop_of_length-le}
use lib.Seq.{take-suc-set, take_all, take-append-le, drop-append-le, drop-drop, drop-cons, set_at, set_out, take-add, take_at, drop_at, take-nil, take-append-add, drop-append-add}
use Rattle.stream.specs.Taking.{kept_count, taking}
use Rattle.stream.specs.Lines.{kept, ended, Lines, none, more, Holds, Written, Answered, FedLine, Took}
use Rattle.stream.specs.declared.line.Line.{Line}
use Rattle.stream.specs.declared.line.Line.TheVariants.{Whole, Begun}
use Rattle.stream.specs.declared.line.Taken.{Taken}
use Rattle.stream.proofs.Chunks.{lines_join}
use Rattle.stream.proofs.TakeLaws.{kept_room, kept_full, taking_feed, taking_byte, taking_none}

-- one byte more of a line
pub holds_none : (buffer : List ℕ) → Holds buffer 0 []
holds_none buffer = record { count = omega arith; bytes = sym (take-nil (length buffer)) }

holds_byte : (buffer : List ℕ) (len b : ℕ) (l : List ℕ) → Holds buffer len l → Holds (set buffer len b) (kept_count buffer len) (l ++ (b ∷ []))
holds_byte buffer len b l k =
    elim (dec_lt len (length buffer)) [
      | yes h ↦
          subst (λ (n : ℕ). Holds (set buffer len b) n (l ++ (b ∷ []))) (kept_room buffer len h)
          (record {
            count = simp (length-append, length-set) (omega (arith, k.count));
            bytes =
                simp (add-one, take-suc-set buffer len b h, length-set, k.bytes, take_all (length buffer) l (omega (arith, k.count)))
                (sym (take_all (length buffer) (l ++ (b ∷ [])) (simp length-append (omega (arith, k.count)))));
          })
      | no nh ↦
          subst (λ (n : ℕ). Holds (set buffer len b) n (l ++ (b ∷ []))) (kept_full buffer len (omega arith))
          (subst (λ (x : List ℕ). Holds x len (l ++ (b ∷ []))) (sym (set_out buffer len b (omega arith)))
          (record {
            count = simp length-append (omega (arith, k.count));
            bytes = k.bytes ∙ sym (take-append-le (length buffer) l (b ∷ []) (omega (arith, k.count)));
          }))
    ]

-- how many bytes of a line are kept
abbrev pub kept_of : Line → ℕ
kept_of (Whole n) = n
kept_of (Begun n) = n

-- how far a line is taken out of the text t, and how many of its bytes are kept
pub record TakenFar (t : List ℕ) (at : ℕ) (line : List ℕ) (len : ℕ) (w : Taken × List ℕ) : Type 0 where
  pub some : at + min 1 (length t) ≤ w.0.at
  pub within : w.0.at ≤ at + length t
  pub few : kept_of w.0.line ≤ max len (length line)
  pub long : length w.1 ≡ length line

pub taken_far : (t : List ℕ) (at : ℕ) (line : List ℕ) (len : ℕ) → TakenFar t at line len (taking t at line len)
taken_far [] at line len = subst (TakenFar [] at line len) (sym (taking_none at line len)) (record { some = omega arith; within = omega arith; few = omega arith; long = refl })
taken_far (b ∷ t) at line len =
    elim (ℕ_discrete b 10) [
      | yes e ↦ subst (TakenFar (b ∷ t) at line len) (sym (taking_feed b t at line len e)) (record { some = omega arith; within = omega arith; few = omega arith; long = refl })
      | no ne ↦ subst (TakenFar (b ∷ t) at line len) (sym (taking_byte b t at line len ne)) (further (taken_far t (at + 1) (set line len b) (kept_count line len)))
    ]
  where
    grown : kept_count line len ≤ max len (length line)
    grown =
        elim (dec_lt len (length line)) [
          | yes h ↦ omega (arith, kept_room line len h)
          | no nh ↦ omega (arith, kept_full line len (omega arith))
        ]

    further : {w : Taken × List ℕ} → TakenFar t (at + 1) (set line len b) (kept_count line len) w → TakenFar (b ∷ t) at line len w
    further f = record { some = omega (arith, f.some); within = omega (arith, f.within); few = omega (arith, f.few, grown, length-set line len b); long = f.long ∙ length-set line len b }

-- the line feed that ends a line, where it came
abbrev pub feed_of : Line → List ℕ
feed_of (Whole n) = 10 ∷ []
feed_of (Begun n) = []

-- what of the text t is taken after the begun line k: bytes of the line, which the buffer then holds, and the line feed
pub record TakenLine (A : List ℕ → List ℕ → Type 0) (k t : List ℕ) (at : ℕ) (w : Taken × List ℕ) : Type 0 where
  pub bytes : List ℕ
  pub begun : List ℕ
  pub lines : Lines A k bytes [] begun
  pub holds : Holds w.1 (kept_of w.0.line) begun
  pub text : take (w.0.at - at) t ≡ bytes ++ feed_of w.0.line

pub taken_line : {A : List ℕ → List ℕ → Type 0} (t : List ℕ) (at : ℕ) (line : List ℕ) (len : ℕ) (k : List ℕ) → Holds line len k → TakenLine A k t at (taking t at line len)
taken_line {A} [] at line len k h = subst (TakenLine A k [] at) (sym (taking_none at line len)) (record { bytes = []; begun = k; lines = none; holds = h; text = take-nil (at - at) })
taken_line {A} (b ∷ t) at line len k h =
    elim (ℕ_discrete b 10) [
      | yes e ↦
          subst (TakenLine A k (b ∷ t) at) (sym (taking_feed b t at line len e))
          (record { bytes = []; begun = k; lines = none; holds = h; text = ap (λ (n : ℕ). take n (b ∷ t)) one ∙ ap (λ (x : ℕ). x ∷ []) e })
      | no ne ↦
          subst (TakenLine A k (b ∷ t) at) (sym (taking_byte b t at line len ne))
          (longer ne (taken_far t (at + 1) (set line len b) (kept_count line len)) (taken_line t (at + 1) (set line len b) (kept_count line len) (k ++ (b ∷ [])) (holds_byte line len b k h)))
    ]
  where
    one : at + 1 - at ≡ suc zero
    one = omega arith

    longer : {w : Taken × List ℕ} → (b ≡ 10 → ⊥) → TakenFar t (at + 1) (set line len b) (kept_count line len) w → TakenLine A (k ++ (b ∷ [])) t (at + 1) w → TakenLine A k (b ∷ t) at w
    longer {w} ne f q =
        record {
          bytes = b ∷ q.bytes;
          begun = q.begun;
          lines = lines_join (more b none (kept ne)) q.lines;
          holds = q.holds;
          text = ap (λ (n : ℕ). take n (b ∷ t)) (next f.some) ∙ ap (λ (x : List ℕ). b ∷ x) q.text;
        }
      where
        next : at + 1 + min 1 (length t) ≤ w.0.at → w.0.at - at ≡ suc (w.0.at - (at + 1))
        next g = omega (arith, g)

-- bytes written into an output, one run after another
written_none : (out : List ℕ) (used : ℕ) → Written [] out used out used
written_none out used = record { front = sym (append-nil (take used out)); rest = refl; end = omega arith }

written_after : {x y o₀ o₁ o₂ : List ℕ} {u₀ u₁ u₂ : ℕ} → Written x o₀ u₀ o₁ u₁ → Written y o₁ u₁ o₂ u₂ → Written (x ++ y) o₀ u₀ o₂ u₂
written_after {x} {y} {o₀} {o₁} {o₂} {u₀} {u₁} {u₂} p q =
    record {
      front = q.front ∙ ap (λ (z : List ℕ). z ++ y) p.front ∙ append_assoc (take u₀ o₀) x y;
      rest = q.rest ∙ past o₁ ∙ ap (drop (length y)) p.rest ∙ sym (past o₀);
      end = simp length-append (omega (arith, p.end, q.end));
    }
  where
    past : (o : List ℕ) → drop u₂ o ≡ drop (length y) (drop u₁ o)
    past o = ap (λ (n : ℕ). drop n o) q.end ∙ sym (drop-drop (length y) u₁ o)

-- the same where the rest of the output was lent
written_rest : {x : List ℕ} (out part : List ℕ) (used v : ℕ) → used ≤ length out → Written x (take (length out - used) (drop used out)) 0 part v
    → Written x out used (take used out ++ (part ++ drop (length out - used) (drop used out))) (used + v)
written_rest {x} out part used v h w =
    record {
      front =
          ap (λ (z : List ℕ). take (used + v) (take used out ++ z)) lent
          ∙ ap (λ (n : ℕ). take (n + v) (take used out ++ part)) (sym (long h))
          ∙ take-append-add (take used out) part v
          ∙ ap (λ (z : List ℕ). take used out ++ z) w.front;
      rest =
          ap (λ (z : List ℕ). drop (used + v) (take used out ++ z)) lent
          ∙ ap (λ (n : ℕ). drop (n + v) (take used out ++ part)) (sym (long h))
          ∙ drop-append-add (take used out) part v
          ∙ w.rest
          ∙ ap (drop v) (take_all (length out - used) (drop used out) (simp length-drop (omega arith)))
          ∙ drop-drop v used out;
      end = omega (arith, w.end);
    }
  where
    long : used ≤ length out → length (take used out) ≡ used
    long h = simp length-take (omega arith)

    lent : part ++ drop (length out - used) (drop used out) ≡ part
    lent = ap (λ (z : List ℕ). part ++ z) (drop_of_length-le (drop used out) (simp length-drop (omega arith))) ∙ append-nil part

-- an answer line at the front of the k bytes of the output o that were lent from the place p on, and a line feed after it
module _ (o : List ℕ) (p k r : ℕ) (line y : List ℕ) (front : y ≡ line ++ drop (length line) (take k (drop p o))) (end : r ≡ length line) (fits : length line ≤ k) (room : p + k < length o) where
  part_long : length (take k (drop p o)) ≡ k
  part_long = simp (length-take, length-drop) (omega arith)

  kept_rest : drop (length line) (take k (drop p o)) ++ drop k (drop p o) ≡ drop (p + length line) o
  kept_rest =
      sym (drop-append-le (length line) (take k (drop p o)) (drop k (drop p o)) (omega (arith, part_long)))
      ∙ ap (drop (length line)) (take-append-drop k (drop p o))
      ∙ drop-drop (length line) p o

  head_long : length (take p o ++ line) ≡ p + r
  head_long = simp (length-append, length-take) (omega arith)

  ended_line : set (take p o ++ (y ++ drop k (drop p o))) (p + r) 10 ≡ (take p o ++ line) ++ (10 ∷ drop (suc (p + length line)) o)
  ended_line =
      ap (λ (x : List ℕ). set (take p o ++ (x ++ drop k (drop p o))) (p + r) 10) front
      ∙ ap (λ (x : List ℕ). set (take p o ++ x) (p + r) 10)
      (append_assoc line (drop (length line) (take k (drop p o))) (drop k (drop p o)) ∙ ap (λ (x : List ℕ). line ++ x) (kept_rest ∙ drop-cons o (p + length line) 0 (omega arith)))
      ∙ ap (λ (x : List ℕ). set x (p + r) 10) (sym (append_assoc (take p o) line (get_or o (p + length line) 0 ∷ drop (suc (p + length line)) o)))
      ∙ set_at (take p o ++ line) (get_or o (p + length line) 0) (drop (suc (p + length line)) o) 10 (p + r) head_long

  whole_long : length ((take p o ++ line) ++ (10 ∷ [])) ≡ p + r + 1
  whole_long = simp length-append (omega (arith, head_long, length-append (take p o) line))

  split : set (take p o ++ (y ++ drop k (drop p o))) (p + r) 10 ≡ ((take p o ++ line) ++ (10 ∷ [])) ++ drop (suc (p + length line)) o
  split = ended_line ∙ sym (append_assoc (take p o ++ line) (10 ∷ []) (drop (suc (p + length line)) o))

  pub written_line : Written (line ++ (10 ∷ [])) o p (set (take p o ++ (y ++ drop k (drop p o))) (p + r) 10) (p + r + 1)
  written_line =
      record {
        front =
            ap (take (p + r + 1)) split
            ∙ take_at ((take p o ++ line) ++ (10 ∷ [])) (drop (suc (p + length line)) o) (p + r + 1) whole_long
            ∙ append_assoc (take p o) line (10 ∷ []);
        rest = ap (drop (p + r + 1)) split ∙ drop_at ((take p o ++ line) ++ (10 ∷ [])) (drop (suc (p + length line)) o) (p + r + 1) whole_long ∙ ap (λ (n : ℕ). drop n o) past;
        end = simp length-append (omega arith);
      }
    where
      past : suc (p + length line) ≡ p + r + 1
      past = omega arith

-- a program's step over the line that was taken: it is whole and its answer is written, or it is not and nothing is
module _ (chunk : List ℕ) (from : ℕ) (line : List ℕ) (len : ℕ) (r : Taken) (line' : List ℕ) (inside : from < length chunk) (fits : len ≤ length line) (e : (r, line') ≡ taking (drop from chunk) from line len) where
  far : TakenFar (drop from chunk) from line len (r, line')
  far = subst (TakenFar (drop from chunk) from line len) (sym e) (taken_far (drop from chunk) from line len)

  taken : {A : List ℕ → List ℕ → Type 0} (l : List ℕ) → Holds line len l → TakenLine A l (drop from chunk) from (r, line')
  taken {A} l h = subst (TakenLine A l (drop from chunk) from) (sym e) (taken_line (drop from chunk) from line len l h)

  kept_few : kept_of r.line ≤ length line
  kept_few = omega (arith, far.few)

  pub took_few : (n : ℕ) → r.line ≡ Whole n → n ≤ length line'
  took_few n e = let f : kept_of (Whole n) ≤ length line = subst (λ (x : Line). kept_of x ≤ length line) e kept_few in omega (arith, f, far.long)

  pub took_kept : (n : ℕ) → r.line ≡ Begun n → n ≤ length line
  took_kept n e = subst (λ (x : Line). kept_of x ≤ length line) e kept_few

  pub took_some : from + 1 ≤ r.at
  took_some = omega (arith, far.some, length-drop from chunk)

  pub took_within : r.at ≤ length chunk
  took_within = omega (arith, far.within, length-drop from chunk)

  pub took_whole : {A : List ℕ → List ℕ → Type 0} (room : ℕ) (out out' : List ℕ) (used end n : ℕ) → r.line ≡ Whole n → Answered A room line' n out used out' end → Took A room chunk from line len out used line' out' (record { taken = r.at; len = 0; used = end })
  took_whole {A} room out out' used end n whole a =
      record { few = omega arith; within = a.few; not_before = a.not_before; taken = took_within; some = took_some; took = λ l h. fed (taken l h) }
    where
      fed : {l : List ℕ} → TakenLine A l (drop from chunk) from (r, line') → FedLine A l (take (r.at - from) (drop from chunk)) out used line' out' 0 end
      fed {l} q =
          let b = a.answered q.begun (subst (λ (x : Line). Holds line' (kept_of x) q.begun) whole q.holds) in
          record {
            answers = b.line ++ (10 ∷ []);
            begun = [];
            lines =
                subst (λ (x : List ℕ). Lines A l x (b.line ++ (10 ∷ [])) []) (sym (q.text ∙ ap (λ (x : Line). q.bytes ++ feed_of x) whole))
                (more 10 q.lines (ended b.line refl b.answer));
            holds = holds_none line';
            written = b.written;
          }

  pub took_part : {A : List ℕ → List ℕ → Type 0} (room : ℕ) (out : List ℕ) (used n : ℕ) → r.line ≡ Begun n → Took A room chunk from line len out used line' out (record { taken = r.at; len = n; used = used })
  took_part {A} room out used n part =
      record { few = took_kept n part; within = omega arith; not_before = omega arith; taken = took_within; some = took_some; took = λ l h. fed (taken l h) }
    where
      fed : {l : List ℕ} → TakenLine A l (drop from chunk) from (r, line') → FedLine A l (take (r.at - from) (drop from chunk)) out used line' out n used
      fed {l} q =
          record {
            answers = [];
            begun = q.begun;
            lines = subst (λ (x : List ℕ). Lines A l x [] q.begun) (sym (q.text ∙ ap (λ (x : Line). q.bytes ++ feed_of x) part ∙ append-nil q.bytes)) q.lines;
            holds = subst (λ (x : Line). Holds line' (kept_of x) q.begun) part q.holds;
            written = written_none out used;
          }

-- a text taken line by line
pub fed_none : {A : List ℕ → List ℕ → Type 0} (l buffer out : List ℕ) (len used : ℕ) → Holds buffer len l → FedLine A l [] out used buffer out len used
fed_none l buffer out len used h = record { answers = []; begun = l; lines = none; holds = h; written = written_none out used }

pub fed_more : {A : List ℕ → List ℕ → Type 0} (l chunk out buffer₁ out₁ buffer₂ out₂ : List ℕ) (used i j len₁ used₁ len₂ used₂ : ℕ) → i ≤ j
    → FedLine A l (take i chunk) out used buffer₁ out₁ len₁ used₁
    → ((k : List ℕ) → Holds buffer₁ len₁ k → FedLine A k (take (j - i) (drop i chunk)) out₁ used₁ buffer₂ out₂ len₂ used₂)
    → FedLine A l (take j chunk) out used buffer₂ out₂ len₂ used₂
fed_more {A} l chunk out buffer₁ out₁ buffer₂ out₂ used i j len₁ used₁ len₂ used₂ h f step =
    let s = step f.begun f.holds in
    record {
      answers = f.answers ++ s.answers;
      begun = s.begun;
      lines = subst (λ (x : List ℕ). Lines A l x (f.answers ++ s.answers) s.begun) (sym (take-add i (j - i) chunk) ∙ ap (λ (n : ℕ). take n chunk) (whole h)) (lines_join f.lines s.lines);
      holds = s.holds;
      written = written_after f.written s.written;
    }
  where
    whole : i ≤ j → i + (j - i) ≡ j
    whole h = omega arith

-- the rest of a chunk was fed, and its answers stand in the rest of the output
pub fed_rest : {A : List ℕ → List ℕ → Type 0} (k chunk buffer out part : List ℕ) (i t used v len : ℕ) → used ≤ length out
    → FedLine A k (take (t - 0) (drop 0 (take (length chunk - i) (drop i chunk)))) (take (length out - used) (drop used out)) 0 buffer part len v
    → FedLine A k (take (i + t - i) (drop i chunk)) out used buffer (take used out ++ (part ++ drop (length out - used) (drop used out))) len (used + v)
fed_rest {A} k chunk buffer out part i t used v len h f =
    record {
      answers = f.answers;
      begun = f.begun;
      lines =
          subst (λ (x : List ℕ). Lines A k x f.answers f.begun)
          (ap (take (t - 0)) (take_all (length chunk - i) (drop i chunk) (simp length-drop (omega arith))) ∙ ap (λ (n : ℕ). take n (drop i chunk)) same)
          f.lines;
      holds = f.holds;
      written = written_rest out part used v h f.written;
    }
  where
    same : t - 0 ≡ i + t - i
    same = omega arith

-- the loop over a chunk: its bytes before the place `at` were taken
pub record Feeding (A : List ℕ → List ℕ → Type 0) (room : ℕ) (chunk line₀ : List ℕ) (len : ℕ) (out₀ : List ℕ) (used : ℕ) (line out : List ℕ) (at kept filled : ℕ) : Type 0 where
  -- what is kept of the line fits, and so does what is written
  pub few : kept ≤ length line₀
  pub within : filled ≤ length out₀
  pub taken : at ≤ length chunk
  -- a byte adds at most one line
  pub slow : filled ≤ used + room * at
  pub line_long : length line ≡ length line₀
  pub out_long : length out ≡ length out₀
  pub fed : (l : List ℕ) → Holds line₀ len l → FedLine A l (take at chunk) out₀ used line out kept filled
