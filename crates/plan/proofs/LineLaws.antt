-- Laws on the answer of a line of which the first 3,073 bytes are kept, and on the call that writes it.
-- Assumes nothing.
use mathlib.Core.Path.{◌≡◌, sym, subst, ◌∙◌, ap}
use mathlib.Core.Bool.{Bool}
use mathlib.Core.List.{List, [], ◌∷◌, ◌++◌}
use Prim.Native.Nat.{ℕ, ◌+◌, ◌-◌, ◌≤◌}
use native.Mathlib.Decide.{dec_le}
use native.Mathlib.Omega.{arith}
use Rattle.std.proofs.Common.{zero-add}
use lib.ListN.{length, take, drop, set, length-append, length-take, length-drop}
use lib.Seq.{take_all}
use borrow.Author.Tests.{le-ltb}
use Rattle.rules.specs.LineCall.{LineAnswerAt, LineAnswer, CallDone, CallAnswerAt, CallAnswer}
use Rattle.setline.proofs.DecodeLaws.{line_long}
use Rattle.stream.specs.Lines.{Holds, Written, AnsweredLine, Answered, FedLine}
use Rattle.stream.proofs.LineLaws.{written_line, fed_rest}

-- the first bytes of a line have its answers, where 3,073 are among them
clipped : (n : ℕ) (l a : List ℕ) → 3073 ≤ n → LineAnswer (take n l) a → LineAnswer l a
clipped n l a g p =
    elim (dec_le (length l) n) [
      | yes h ↦ subst (λ (x : List ℕ). LineAnswer x a) (take_all n l h) p
      | no nh ↦
          subst (λ (t : Bool). LineAnswerAt t l a) (line_long l (omega arith))
          (subst (λ (t : Bool). LineAnswerAt t (take n l) a) (sym (line_long (take n l) (simp length-take (omega arith)))) p)
    ]

held_answer : (buffer : List ℕ) (len : ℕ) (l a : List ℕ) → 3073 ≤ length buffer → Holds buffer len l → LineAnswer (take len buffer) a → LineAnswer l a
held_answer buffer len l a g k p = clipped (length buffer) l a g (subst (λ (x : List ℕ). LineAnswer x a) k.bytes p)

-- so where 3,073 bytes are kept, the answer line of what is kept of a line is one of the line
pub answered : (buffer : List ℕ) (len : ℕ) (o after : List ℕ) (r : ℕ) → 3073 ≤ length buffer → r ≤ 1907 → AnsweredLine LineAnswer (take len buffer) o 0 after r
    → Answered LineAnswer 1907 buffer len o 0 after r
answered buffer len o after r long few a =
    record {
      few = omega arith;
      not_before = omega arith;
      answered = λ l h. record { line = a.line; answer = held_answer buffer len l a.line long h a.answer; written = a.written };
    }

-- the call on the first 1,906 bytes of the output, and a line feed after what it wrote
module _ (i o : List ℕ) (r : ℕ) (y : List ℕ) (room : 1907 ≤ length o) (same : length y ≡ length (take 1906 o)) (call : CallAnswer i (take 1906 o) r y) where
  part_long : length (take 1906 o) ≡ 1906
  part_long = simp length-take (omega arith)

  call_done : CallDone i (take 1906 o) r y
  call_done = subst (λ (t : Bool). CallAnswerAt t i (take 1906 o) r y) (le-ltb (length (take 1906 o)) 1906 (omega (arith, part_long))) call

  line_fits : length call_done.line ≤ 1906
  line_fits =
      let long : length y ≡ length call_done.line + (length (take 1906 o) - length call_done.line) = ap length call_done.written ∙ simp (length-append, length-drop (length call_done.line) (take 1906 o)) in
      omega (arith, part_long)

  pub wrote_few : r ≤ 1906
  wrote_few = omega (arith, line_fits, call_done.bytes)

  pub answer_line : AnsweredLine LineAnswer i o 0 (set (y ++ drop 1906 o) r 10) (r + 1)
  answer_line =
      record {
        line = call_done.line;
        answer = call_done.answer;
        written =
            subst (λ (n : ℕ). Written (call_done.line ++ (10 ∷ [])) o 0 (set (y ++ drop 1906 o) n 10) (n + 1)) (zero-add r)
            (written_line o 0 1906 r call_done.line y call_done.written call_done.bytes line_fits (omega arith));
      }

-- the rest of a chunk was fed into the rest of an output whose length its type says
pub fed_rest_of : (end : ℕ) (k chunk buffer out part : List ℕ) (i t used v len : ℕ) → length out ≡ end → used ≤ end
    → FedLine LineAnswer k (take (t - 0) (drop 0 (take (length chunk - i) (drop i chunk)))) (take (end - used) (drop used out)) 0 buffer part len v
    → FedLine LineAnswer k (take (i + t - i) (drop i chunk)) out used buffer (take used out ++ (part ++ drop (end - used) (drop used out))) len (used + v)
fed_rest_of end k chunk buffer out part i t used v len long within =
    subst
    (λ (n : ℕ). FedLine LineAnswer k (take (t - 0) (drop 0 (take (length chunk - i) (drop i chunk)))) (take (n - used) (drop used out)) 0 buffer part len v
    → FedLine LineAnswer k (take (i + t - i) (drop i chunk)) out used buffer (take used out ++ (part ++ drop (n - used) (drop used out))) len (used + v))
    long
    (fed_rest k chunk buffer out part i t used v len (omega (arith, long, within)))
