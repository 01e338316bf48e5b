-- A run of a program over lines answers what came: where it ends and neither reading nor writing failed, the bytes that were handed on to be
-- written are the answers to the bytes that came, the last line without a line feed among them. The contracts of `more`, of the program's step
-- and of `pass_on` are all that is used.
-- Assumes nothing.
use mathlib.Core.Path.{◌≡◌, refl, sym, subst, ◌∙◌, ap}
use mathlib.Core.Bool.{Bool, true, false, not}
use mathlib.Core.List.{List, [], ◌∷◌, ◌++◌, append_assoc, append-nil}
use Prim.Native.Nat.{ℕ, zero, suc, ◌+◌, ◌-◌, ◌≤◌, ◌<◌, min}
use native.Mathlib.Decide.{dec_lt, ℕ_discrete}
use native.Mathlib.Nat.{sub-zero, zero-sub, suc-sub-suc}
use native.Mathlib.Omega.{arith}
use lib.ListN.{length, get_or, take, drop, length-take, take-append-drop}
use lib.Seq.{take-suc, take-nil, drop-drop}
use borrow.Author.Tests.{eq-eqb, ne_eqb}
use Rattle.stream.specs.Lines.{Lines, none, Holds, Fed, Answers, all_ended}
use Rattle.stream.specs.Reading.{started, last_begins, moved_on, Last, none_begun, given_its_feed, no_place, Read, came, ended, failed, stopped, Next, rest, read, Handed, Passed, written, lost, Ended}
use Rattle.stream.specs.Rounds.{bytes_read, bytes_come, Run, begins, round, History, Kept}
use Rattle.stream.specs.declared.input.Source.{Source}
use Rattle.stream.specs.declared.line.Stage.{Stage}
use Rattle.stream.proofs.Chunks.{lines_join, lines_of_none, left_none, last_line_given_its_feed}
use Rattle.stream.proofs.LineLaws.{holds_none}
use Rattle.stream.proofs.LoopLaws.{no_false}

-- whether the bytes that came end inside a line
data Inside (b : Bool) (x : List ℕ) : Type 0 where
  no_byte : b ≡ false → x ≡ [] → Inside b x
  after_feed : (t : List ℕ) → b ≡ false → x ≡ t ++ (10 ∷ []) → Inside b x
  in_line : (t : List ℕ) (c : ℕ) → b ≡ true → x ≡ t ++ (c ∷ []) → (c ≡ 10 → ⊥) → Inside b x

-- what was given beyond the bytes that came: nothing, or the line feed of a last line
data Given (s : Source) (x given : List ℕ) : Type 0 where
  none_given : given ≡ [] → 0 < s.left → Inside s.begun x → Given s x given
  feed_given : (t : List ℕ) (c : ℕ) → given ≡ 10 ∷ [] → s.left ≡ 0 → x ≡ t ++ (c ∷ []) → (c ≡ 10 → ⊥) → Given s x given

-- what is left of the chunk
abbrev left_of : List ℕ → Source → List ℕ
left_of input s = take (s.end - s.at) (drop s.at input)

-- up to here: what was fed and what is left of the chunk are the bytes that came, and what was given; what was fed is answered, and its begun line
-- is kept
record Ran (A : List ℕ → List ℕ → Type 0) (x y input : List ℕ) (s : Source) (line : List ℕ) (len : ℕ) : Type 0 where
  pub text : List ℕ
  pub begun : List ℕ
  pub given : List ℕ
  pub lines : Lines A [] text y begun
  pub holds : Holds line len begun
  pub all : text ++ left_of input s ≡ x ++ given
  pub within : s.end ≤ length input
  pub which : Given s x given

-- what is left of a run of bytes after so many of them
drop_take : (k n : ℕ) (l : List ℕ) → drop k (take n l) ≡ take (n - k) (drop k l)
drop_take zero n l = ap (λ (m : ℕ). take m l) (sym (sub-zero n))
drop_take (suc k) zero l = ap (λ (m : ℕ). take m (drop (suc k) l)) (sym (zero-sub (suc k)))
drop_take (suc k) (suc n) [] = sym (take-nil (suc n - suc k))
drop_take (suc k) (suc n) (b ∷ l) = drop_take k n l ∙ ap (λ (m : ℕ). take m (drop k l)) (sym (suc-sub-suc n k))

left_after : (input : List ℕ) (s : Source) (taken : ℕ) → taken ≤ s.end - s.at → s.at < s.end → left_of input (moved_on s taken) ≡ drop taken (left_of input s)
left_after input s taken few some =
    ap (λ (n : ℕ). take (s.end - n) (drop n input)) (place few some)
    ∙ ap (λ (n : ℕ). take n (drop (s.at + taken) input)) (count few some)
    ∙ ap (λ (v : List ℕ). take (s.end - s.at - taken) v) (sym (drop-drop taken s.at input))
    ∙ sym (drop_take taken (s.end - s.at) (drop s.at input))
  where
    place : taken ≤ s.end - s.at → s.at < s.end → min (s.at + taken) s.end ≡ s.at + taken
    place few some = omega arith

    count : taken ≤ s.end - s.at → s.at < s.end → s.end - (s.at + taken) ≡ s.end - s.at - taken
    count few some = omega arith

-- the last of the bytes that came
came_inside : (x input : List ℕ) (n : ℕ) → 0 < n → n ≤ length input → Inside (last_begins input n) (x ++ take n input)
came_inside x input n h f =
    elim (ℕ_discrete (get_or input (n - 1) 0) 10) [
      | yes e ↦ after_feed (x ++ take (n - 1) input) (ap not (eq-eqb (get_or input (n - 1) 0) 10 e)) (split ∙ ap (λ (b : ℕ). (x ++ take (n - 1) input) ++ (b ∷ [])) e)
      | no ne ↦ in_line (x ++ take (n - 1) input) (get_or input (n - 1) 0) (ap not (ne_eqb (get_or input (n - 1) 0) 10 ne)) split ne
    ]
  where
    split : x ++ take n input ≡ (x ++ take (n - 1) input) ++ (get_or input (n - 1) 0 ∷ [])
    split =
        ap (λ (k : ℕ). x ++ take k input) (one n h)
        ∙ ap (λ (z : List ℕ). x ++ z) (take-suc input (n - 1) 0 (omega arith))
        ∙ sym (append_assoc x (take (n - 1) input) (get_or input (n - 1) 0 ∷ []))
      where
        one : (n : ℕ) → 0 < n → n ≡ suc (n - 1)
        one n h = omega arith

module _ {A : List ℕ → List ℕ → Type 0} where
  -- where nothing is left of the chunk, all that came and was given is fed
  all_fed : {x y input line : List ℕ} {s : Source} {len : ℕ} (q : Ran A x y input s line len) → s.end ≤ s.at → q.text ≡ x ++ q.given
  all_fed {input = input} {s = s} q h =
      sym (append-nil q.text) ∙ ap (λ (n : ℕ). q.text ++ take n (drop s.at input)) (none_of h) ∙ q.all
    where
      none_of : s.end ≤ s.at → 0 ≡ s.end - s.at
      none_of h = omega arith

  -- a chunk is asked for, and there is one
  module _ {x y was line : List ℕ} {s : Source} {len : ℕ} (q : Ran A x y was s line len) (input : List ℕ) (h : Source) (some : h.at < h.end) where
    ran_given : s.end ≤ s.at → 0 < s.left → Last s input h → Ran A (x ++ []) y input h line len
    ran_given over left l = of q.which l
      where
        of : Given s x q.given → Last s input h → Ran A (x ++ []) y input h line len
        of w (none_begun b e) = let z = ap (λ (k : Source). k.end) e in absurd (omega (arith, some, z))
        of w (no_place b g e) = let z = ap (λ (k : Source). k.end) e in absurd (omega (arith, some, z))
        of (feed_given t c g z e ne) (given_its_feed b f d k) = absurd (omega arith)
        of (none_given g z (no_byte u e)) (given_its_feed b f d k) = no_false (sym b ∙ u)
        of (none_given g z (after_feed t u e)) (given_its_feed b f d k) = no_false (sym b ∙ u)
        of (none_given g z (in_line t c u e ne)) (given_its_feed b f d k) =
            subst (λ (r : Source). Ran A (x ++ []) y input r line len) (sym k)
            (record {
              text = q.text;
              begun = q.begun;
              given = 10 ∷ [];
              lines = q.lines;
              holds = q.holds;
              all =
                  ap (λ (v : List ℕ). v ++ take 1 input) (all_fed q over ∙ ap (λ (v : List ℕ). x ++ v) g)
                  ∙ ap (λ (v : List ℕ). (x ++ []) ++ v) (take-suc input 0 0 f ∙ ap (λ (v : ℕ). v ∷ []) d);
              within = f;
              which = feed_given t c refl refl (append-nil x ∙ e) ne;
            })

    ran_came : (n : ℕ) → s.end ≤ s.at → 0 < n → n < s.left → n ≤ length input
        → Ran A (x ++ take n input) y input (record { left = s.left - n; at = 0; end = n; begun = last_begins input n; unread = s.unread; unwritten = s.unwritten }) line len
    ran_came n over pos few fit = of q.which
      where
        of : Given s x q.given → Ran A (x ++ take n input) y input (record { left = s.left - n; at = 0; end = n; begun = last_begins input n; unread = s.unread; unwritten = s.unwritten }) line len
        of (feed_given t c g z e ne) = absurd (omega arith)
        of (none_given g z i) =
            record {
              text = q.text;
              begun = q.begun;
              given = [];
              lines = q.lines;
              holds = q.holds;
              all = ap (λ (k : ℕ). q.text ++ take k input) (sub-zero n) ∙ ap (λ (v : List ℕ). v ++ take n input) (all_fed q over ∙ ap (λ (v : List ℕ). x ++ v) g ∙ append-nil x) ∙ sym (append-nil (x ++ take n input));
              within = fit;
              which = none_given refl (omega arith) (came_inside x input n pos fit);
            }

    ran_read : s.end ≤ s.at → (l : Read s input h) → Ran A (x ++ bytes_read l) y input h line len
    ran_read over (came n pos few fit e) = subst (λ (r : Source). Ran A (x ++ take n input) y input r line len) (sym e) (ran_came n over pos few fit)
    ran_read over (ended left l) = ran_given over left l
    ran_read over (failed e) = let z = ap (λ (k : Source). k.end) e in absurd (omega (arith, some, z))
    ran_read over (stopped g e) = let z = ap (λ (k : Source). k.end) e in absurd (omega (arith, some, z))

    ran_next : (l : Next s was input h) → Ran A (x ++ bytes_come l) y input h line len
    ran_next (rest f g e d) =
        subst (λ (v : List ℕ). Ran A v y input h line len) (sym (append-nil x))
        (subst (λ (r : Source). Ran A x y input r line len) (sym e) (subst (λ (v : List ℕ). Ran A x y v s line len) (sym d) q))
    ran_next (read f l) = ran_read (elim (dec_lt s.at s.end) [ yes g ↦ absurd (f g q.within) | no g ↦ omega arith ]) l

  -- it is fed, and its answers are passed on
  ran_fed : {x y input line line₁ out out₁ : List ℕ} {h : Source} {len : ℕ} {g : Stage} → Ran A x y input h line len → h.at < h.end
      → Fed A (take (h.end - h.at) (drop h.at input)) line len out 0 line₁ out₁ g
      → Ran A x (y ++ take g.used out₁) input (moved_on h g.taken) line₁ g.len
  ran_fed {x} {y} {input} {line} {line₁} {out} {out₁} {h} {len} {g} q some f =
      let l = f.fed q.begun q.holds in
      record {
        text = q.text ++ take g.taken (left_of input h);
        begun = l.begun;
        given = q.given;
        lines = subst (λ (v : List ℕ). Lines A [] (q.text ++ take g.taken (left_of input h)) (y ++ v) l.begun) (sym l.written.front) (lines_join q.lines l.lines);
        holds = l.holds;
        all =
            ap (λ (v : List ℕ). (q.text ++ take g.taken (left_of input h)) ++ v) (left_after input h g.taken (few f.taken) some)
            ∙ append_assoc q.text (take g.taken (left_of input h)) (drop g.taken (left_of input h))
            ∙ ap (λ (v : List ℕ). q.text ++ v) (take-append-drop g.taken (left_of input h))
            ∙ q.all;
        within = q.within;
        which = of q.which;
      }
    where
      few : g.taken ≤ length (left_of input h) → g.taken ≤ h.end - h.at
      few e = omega (arith, length-take (h.end - h.at) (drop h.at input))

      of : {given : List ℕ} → Given h x given → Given (moved_on h g.taken) x given
      of (none_given e z i) = none_given e z i
      of (feed_given t c e z d ne) = feed_given t c e z d ne

  run_ran : {line₀ x y input line : List ℕ} {s : Source} {len : ℕ} → Run A line₀ x y input s line len → Ran A x y input s line len
  run_ran {line₀} {input = input} begins =
      record { text = []; begun = []; given = []; lines = none; holds = holds_none line₀; all = refl; within = omega arith; which = none_given refl (omega arith) (no_byte refl refl) }
  run_ran (round {x = x} {y = y} {input = input} {line₁ = line₁} {out₁ = out₁} {h = h} {g = g} u p some f e) =
      subst (λ (v : Source). Ran A (x ++ bytes_come p.next) (y ++ take g.used out₁) input v line₁ g.len) (sym e) (ran_fed (ran_next (run_ran u) input h some p.next) some f)

  -- a text that leaves no line begun
  fed_whole : {t y k : List ℕ} → Lines A [] t y k → length k ≡ 0 → Answers A t y
  fed_whole {t} {y} {k} q e = all_ended (subst (λ (v : List ℕ). Lines A [] t y v) (none_in k e) q)
    where
      none_in : (k : List ℕ) → length k ≡ 0 → k ≡ []
      none_in [] e = refl
      none_in (b ∷ k) e = absurd (omega arith)

  -- the run ends: no chunk comes, and neither reading nor writing failed
  module _ {x y was line : List ℕ} {s : Source} {len : ℕ} (q : Ran A x y was s line len) (over : s.end ≤ s.at) where
    whole_text : (t : List ℕ) → x ++ q.given ≡ t → Lines A [] t y q.begun
    whole_text t e = subst (λ (v : List ℕ). Lines A [] v y q.begun) (all_fed q over ∙ e) q.lines

    answered_none : s.begun ≡ false → 0 < s.left → Given s x q.given → Answers A x y
    answered_none b left (feed_given t c g z e ne) = absurd (omega arith)
    answered_none b left (none_given g z (in_line t c u e ne)) = no_false (sym u ∙ b)
    answered_none b left (none_given g z (no_byte u e)) =
        subst (λ (v : List ℕ). Answers A v y) (sym e) (fed_whole (whole_text [] (ap (λ (v : List ℕ). x ++ v) g ∙ append-nil x ∙ e)) (ap length (sym (lines_of_none (whole_text [] (ap (λ (v : List ℕ). x ++ v) g ∙ append-nil x ∙ e)) refl))))
    answered_none b left (none_given g z (after_feed t u e)) =
        let l = whole_text (t ++ (10 ∷ [])) (ap (λ (v : List ℕ). x ++ v) g ∙ append-nil x ∙ e) in
        subst (λ (v : List ℕ). Answers A v y) (sym e) (fed_whole l (left_none t 10 l refl))

    answered_given : s.left ≡ 0 → Given s x q.given → Answers A x y
    answered_given none_left (none_given g z i) = absurd (omega arith)
    answered_given none_left (feed_given t c g z e ne) =
        let l = whole_text ((t ++ (c ∷ [])) ++ (10 ∷ [])) (ap (λ (v : List ℕ). x ++ v) g ∙ ap (λ (v : List ℕ). v ++ (10 ∷ [])) e) in
        subst (λ (v : List ℕ). Answers A v y) (sym e) ((last_line_given_its_feed t c ne y).1 (fed_whole l (left_none (t ++ (c ∷ [])) 10 l refl)))

    module _ (input : List ℕ) (r : Source) (place : 0 < length input) (end : r.at ≡ r.end) (good : r.unread ≡ false) where
      answered_last : 0 < s.left → Last s input r → Answers A x y
      answered_last left (none_begun b e) = answered_none b left q.which
      answered_last left (given_its_feed b g f e) = let z : ◌≡◌ {A = ℕ} 0 1 = sym (ap (λ (v : Source). v.at) e) ∙ end ∙ ap (λ (v : Source). v.end) e in absurd (omega arith)
      answered_last left (no_place b g e) = absurd (omega arith)

      answered_read : Read s input r → Answers A x y
      answered_read (came n g f d e) = let z : ◌≡◌ {A = ℕ} 0 n = sym (ap (λ (v : Source). v.at) e) ∙ end ∙ ap (λ (v : Source). v.end) e in absurd (omega arith)
      answered_read (ended left l) = answered_last left l
      answered_read (failed e) = no_false (sym (ap (λ (v : Source). v.unread) e) ∙ good)
      answered_read (stopped g e) = answered_given g q.which

  -- "Out, one line for each": where no chunk comes any more and reading did not fail, what was handed on to be written is the answer to what came
  pub run_answers : {line₀ x y was line : List ℕ} {s : Source} {len : ℕ} (input : List ℕ) (r : Source) → Run A line₀ x y was s line len → Handed s was input r
      → 0 < length input
      → r.at ≡ r.end
      → r.unread ≡ false
      → Answers A x y
  run_answers {x = x} {y = y} {was = was} {s = s} input r u p place end good = of (run_ran u) p.next
    where
      of : {line : List ℕ} {len : ℕ} → Ran A x y was s line len → Next s was input r → Answers A x y
      of q (rest f g e d) = let z : s.at ≡ s.end = sym (ap (λ (v : Source). v.at) e) ∙ end ∙ ap (λ (v : Source). v.end) e in absurd (omega arith)
      of q (read f l) = answered_read q (elim (dec_lt s.at s.end) [ yes g ↦ absurd (f g q.within) | no g ↦ omega arith ]) input r place end good l

-- what a program's loop shows: a run begins, goes on by each turn, and ends
handed_flag : (s : Source) (was input : List ℕ) (h : Source) → Handed s was input h → h.unwritten ≡ s.unwritten
handed_flag s was input h p = of p.next
  where
    last : Last s input h → h.unwritten ≡ s.unwritten
    last (none_begun b e) = ap (λ (v : Source). v.unwritten) e
    last (given_its_feed b g f e) = ap (λ (v : Source). v.unwritten) e
    last (no_place b g e) = ap (λ (v : Source). v.unwritten) e

    one : Read s input h → h.unwritten ≡ s.unwritten
    one (came n g f d e) = ap (λ (v : Source). v.unwritten) e
    one (ended left l) = last l
    one (failed e) = ap (λ (v : Source). v.unwritten) e
    one (stopped g e) = ap (λ (v : Source). v.unwritten) e

    of : Next s was input h → h.unwritten ≡ s.unwritten
    of (rest f g e d) = ap (λ (v : Source). v.unwritten) e
    of (read f l) = one l

module _ {A : List ℕ → List ℕ → Type 0} (line₀ : List ℕ) where
  pub history_start : (input : List ℕ) (s : Source) → s ≡ started → s.unwritten ≡ false → History A line₀ input s line₀ 0
  history_start input s e u = subst (λ (v : Source). History A line₀ input v line₀ 0) (sym e) (record { bytes = []; answers = []; run = begins })

  module _ (was input line : List ℕ) (s h : Source) (len : ℕ) (u : s.unwritten ≡ false → History A line₀ was s line len) (p : Handed s was input h) where
    pub history_end : Kept A line₀ input h line len
    history_end = record { rounds = λ e. record { was = was; before = s; history = u (sym (handed_flag s was input h p) ∙ e); handed = p } }

    pub history_again : (line₁ out out₁ : List ℕ) (g : Stage) (r : Source) → h.at < h.end
        → Fed A (take (h.end - h.at) (drop h.at input)) line len out 0 line₁ out₁ g
        → Passed h g.taken r
        → r.unwritten ≡ false
        → History A line₀ input r line₁ g.len
    history_again line₁ out out₁ g r some f (written e) good =
        let v = u (sym (handed_flag s was input h p) ∙ sym (ap (λ (v : Source). v.unwritten) e) ∙ good) in
        record { bytes = v.bytes ++ bytes_come p.next; answers = v.answers ++ take g.used out₁; run = round v.run p some f e }
    history_again line₁ out out₁ g r some f (lost e) good = no_false (sym (ap (λ (v : Source). v.unwritten) e) ∙ good)

-- so where neither reading nor writing failed, what such a loop handed on to be written is the answer to the bytes that came
pub loop_answers : {A : List ℕ → List ℕ → Type 0} (line₀ input : List ℕ) (r : Source) (line : List ℕ) (len : ℕ) → Ended r len → (k : Kept A line₀ input r line len) → 0 < length input → r.unread ≡ false → (u : r.unwritten ≡ false)
    → Answers A (k.rounds u).history.bytes (k.rounds u).history.answers
loop_answers line₀ input r line len e k place good u = run_answers input r (k.rounds u).history.run (k.rounds u).handed place e.nothing_left good
