-- Into which chunks a text is cut changes nothing in what is written for it, nor does the line feed that a last line begun is given.
-- Assumes nothing.
use mathlib.Core.Path.{◌≡◌, refl, sym, subst, ◌∙◌, ap}
use mathlib.Core.List.{List, [], ◌∷◌, ◌++◌, append_assoc, append-nil, nil≢cons, head-eq_of_cons-eq, tail-eq_of_cons-eq}
use Prim.Native.Nat.{ℕ, ◌<◌}
use native.Mathlib.Omega.{arith}
use lib.ListN.{length, length-append}
use Rattle.stream.specs.Lines.{Step, kept, ended, Lines, none, more, Answers, all_ended, last_begun}
use Rattle.stream.specs.Chunks.{whole_text, Chunks, no_chunk, chunk}

-- a text is empty, or it has a last byte
data Ending : List ℕ → Type 0 where
  empty : Ending []
  last : (t : List ℕ) (b : ℕ) → Ending (t ++ (b ∷ []))

ending : (t : List ℕ) → Ending t
ending [] = empty
ending (b ∷ t) = begun (ending t)
  where
    begun : {u : List ℕ} → Ending u → Ending (b ∷ u)
    begun empty = last [] b
    begun (last v c) = last (b ∷ v) c

no_last : (t : List ℕ) (b : ℕ) → ◌≡◌ {A = List ℕ} [] (t ++ (b ∷ [])) → ⊥
no_last [] b e = nil≢cons e
no_last (c ∷ t) b e = nil≢cons e

-- two texts with a last byte are equal where what is before it is, and it is
same_last : (t u : List ℕ) (b c : ℕ) → t ++ (b ∷ []) ≡ u ++ (c ∷ []) → (t ≡ u) × (b ≡ c)
same_last [] [] b c e = (refl, head-eq_of_cons-eq e)
same_last [] (d ∷ u) b c e = absurd (no_last u c (tail-eq_of_cons-eq e))
same_last (d ∷ t) [] b c e = absurd (no_last t b (sym (tail-eq_of_cons-eq e)))
same_last (d ∷ t) (f ∷ u) b c e =
    let s = same_last t u b c (tail-eq_of_cons-eq e) in
    (ap (λ (x : ℕ). x ∷ t) (head-eq_of_cons-eq e) ∙ ap (λ (x : List ℕ). f ∷ x) s.0, s.1)

both_empty : (t u : List ℕ) → ◌≡◌ {A = List ℕ} [] (t ++ u) → (t ≡ []) × (u ≡ [])
both_empty [] u e = (refl, sym e)
both_empty (b ∷ t) u e = absurd (nil≢cons e)

-- the text of one chunk more
whole_text_more : (ts : List (List ℕ)) (u : List ℕ) → whole_text (ts ++ (u ∷ [])) ≡ whole_text ts ++ u
whole_text_more [] u = append-nil u
whole_text_more (t ∷ ts) u = ap (λ (x : List ℕ). t ++ x) (whole_text_more ts u) ∙ sym (append_assoc t (whole_text ts) u)

-- the last byte of a text that was taken
record Before (A : List ℕ → List ℕ → Type 0) (l t : List ℕ) (b : ℕ) (o k : List ℕ) : Type 0 where
  pub answers : List ℕ
  pub begun : List ℕ
  pub answer : List ℕ
  pub lines : Lines A l t answers begun
  pub step : Step A b begun answer k
  pub whole : o ≡ answers ++ answer

-- a text t ++ u that was taken: t was, and then u from the line on that t left begun
pub record Parts (A : List ℕ → List ℕ → Type 0) (l t u o j : List ℕ) : Type 0 where
  pub first : List ℕ
  pub begun : List ℕ
  pub second : List ℕ
  pub lines : Lines A l t first begun
  pub rest : Lines A begun u second j
  pub whole : o ≡ first ++ second

module _ {A : List ℕ → List ℕ → Type 0} where
  -- a text after a text
  pub lines_join : {l t o k u p j : List ℕ} → Lines A l t o k → Lines A k u p j → Lines A l (t ++ u) (o ++ p) j
  lines_join {l} {t} {o} {k} q none = subst (λ (x : List ℕ). Lines A l x (o ++ []) k) (sym (append-nil t)) (subst (λ (x : List ℕ). Lines A l t x k) (sym (append-nil o)) q)
  lines_join {l} {t} {o} {k} q (more {t = u} {o = p} {a = a} {k' = j} b r s) =
      subst (λ (x : List ℕ). Lines A l x (o ++ (p ++ a)) j) (append_assoc t u (b ∷ []))
      (subst (λ (x : List ℕ). Lines A l ((t ++ u) ++ (b ∷ [])) x j) (append_assoc o p a) (more b (lines_join q r) s))

  -- a text without a byte leaves the line begun that was
  pub lines_of_none : {l s o k : List ℕ} → Lines A l s o k → s ≡ [] → l ≡ k
  lines_of_none none e = refl
  lines_of_none (more {t = t} b r w) e = absurd (no_last t b (sym e))

  before : {l s o k : List ℕ} (t : List ℕ) (b : ℕ) → Lines A l s o k → s ≡ t ++ (b ∷ []) → Before A l t b o k
  before t b none e = absurd (no_last t b e)
  before {l} {k = j} t b (more {t = u} {o = p} {k = k} {a = a} c q s) e =
      let same = same_last u t c b e in
      record {
        answers = p;
        begun = k;
        answer = a;
        lines = subst (λ (x : List ℕ). Lines A l x p k) same.0 q;
        step = subst (λ (x : ℕ). Step A x k a j) same.1 s;
        whole = refl;
      }

  parts_of : {l s o j : List ℕ} (t u : List ℕ) → Ending u → Lines A l s o j → s ≡ t ++ u → Parts A l t u o j
  parts_of {l} t u z none e =
      let none_left = both_empty t u e in
      record {
        first = [];
        begun = l;
        second = [];
        lines = subst (λ (x : List ℕ). Lines A l x [] l) (sym none_left.0) none;
        rest = subst (λ (x : List ℕ). Lines A l x [] l) (sym none_left.1) none;
        whole = refl;
      }
  parts_of {l} {s} {o} {j} t u empty (more {t = v} {o = p} {k = k} {a = a} b q w) e =
      record {
        first = o;
        begun = j;
        second = [];
        lines = subst (λ (x : List ℕ). Lines A l x o j) (e ∙ append-nil t) (more b q w);
        rest = none;
        whole = sym (append-nil o);
      }
  parts_of {l} {s} {o} {j} t u (last x c) (more {t = v} {o = p} {k = k} {a = a} b q w) e =
      let same = same_last v (t ++ x) b c (e ∙ sym (append_assoc t x (c ∷ []))) in
      let r = parts_of t x (ending x) q same.0 in
      record {
        first = r.first;
        begun = r.begun;
        second = r.second ++ a;
        lines = r.lines;
        rest = more c r.rest (subst (λ (y : ℕ). Step A y k a j) same.1 w);
        whole = ap (λ (y : List ℕ). y ++ a) r.whole ∙ append_assoc r.first r.second a;
      }

  pub lines_split : {l o j : List ℕ} (t u : List ℕ) → Lines A l (t ++ u) o j → Parts A l t u o j
  lines_split t u q = parts_of t u (ending u) q refl

  -- the chunks of a text, one after another, are the text: the same is written, and the same line is left begun
  chunks_whole : {l o k : List ℕ} {ts : List (List ℕ)} → Chunks A l ts o k → Lines A l (whole_text ts) o k
  chunks_whole no_chunk = none
  chunks_whole (chunk q r) = lines_join q (chunks_whole r)

  whole_chunks : {l o k : List ℕ} (ts : List (List ℕ)) → Lines A l (whole_text ts) o k → Chunks A l ts o k
  whole_chunks [] q = only q refl
    where
      only : {l s o k : List ℕ} → Lines A l s o k → s ≡ [] → Chunks A l [] o k
      only none e = no_chunk
      only (more {t = t} b r w) e = absurd (no_last t b (sym e))
  whole_chunks {l = l} {o = o} {k = k} (t ∷ ts) q =
      let p = lines_split t (whole_text ts) q in
      subst (λ (x : List ℕ). Chunks A l (t ∷ ts) x k) (sym p.whole) (chunk p.lines (whole_chunks {l = p.begun} {o = p.second} {k = k} ts p.rest))

  pub chunks_are_whole : (l : List ℕ) (ts : List (List ℕ)) (o k : List ℕ) → (Chunks A l ts o k → Lines A l (whole_text ts) o k) × (Lines A l (whole_text ts) o k → Chunks A l ts o k)
  chunks_are_whole l ts o k = (chunks_whole, whole_chunks ts)

  -- a last byte that is no line feed leaves a line begun, and a line feed leaves none
  kept_begun : {b : ℕ} {k a j : List ℕ} → Step A b k a j → (b ≡ 10 → ⊥) → 0 < length j
  kept_begun {b} {k} (kept ne) h = simp length-append (omega arith)
  kept_begun (ended a e g) h = absurd (h e)

  pub left_begun : {l o k : List ℕ} (t : List ℕ) (b : ℕ) → Lines A l (t ++ (b ∷ [])) o k → (b ≡ 10 → ⊥) → 0 < length k
  left_begun t b q h = kept_begun (before t b q refl).step h

  ended_none : {b : ℕ} {k a j : List ℕ} → Step A b k a j → b ≡ 10 → length j ≡ 0
  ended_none (kept ne) e = absurd (ne e)
  ended_none (ended a f g) e = refl

  pub left_none : {l o k : List ℕ} (t : List ℕ) (b : ℕ) → Lines A l (t ++ (b ∷ [])) o k → b ≡ 10 → length k ≡ 0
  left_none t b q e = ended_none (before t b q refl).step e

  last_answered : {t o k a j : List ℕ} {b : ℕ} → Lines A [] t o k → 0 < length k → Step A b k a j → b ≡ 10 → Answers A t (o ++ a)
  last_answered q some (kept ne) e = absurd (ne e)
  last_answered q some (ended a f g) e = last_begun a q some g

  -- a last line that has a byte and no line feed: with its line feed the text is answered by the same
  module _ (t : List ℕ) (b : ℕ) (ne : b ≡ 10 → ⊥) where
    feed_given : {o : List ℕ} → Answers A (t ++ (b ∷ [])) o → Answers A ((t ++ (b ∷ [])) ++ (10 ∷ [])) o
    feed_given (all_ended q) = let some = left_begun t b q ne in absurd (omega arith)
    feed_given (last_begun a q some g) = all_ended (more 10 q (ended a refl g))

    feed_taken : {o : List ℕ} → Answers A ((t ++ (b ∷ [])) ++ (10 ∷ [])) o → Answers A (t ++ (b ∷ [])) o
    feed_taken {o} (all_ended q) =
        let p = before (t ++ (b ∷ [])) 10 q refl in
        subst (λ (x : List ℕ). Answers A (t ++ (b ∷ [])) x) (sym p.whole) (last_answered p.lines (left_begun t b p.lines ne) p.step refl)
    feed_taken (last_begun a q some g) = let none_left = ended_none (before (t ++ (b ∷ [])) 10 q refl).step refl in absurd (omega arith)

    pub last_line_given_its_feed : (o : List ℕ) → (Answers A (t ++ (b ∷ [])) o → Answers A ((t ++ (b ∷ [])) ++ (10 ∷ [])) o)
        × (Answers A ((t ++ (b ∷ [])) ++ (10 ∷ [])) o → Answers A (t ++ (b ∷ [])) o)
    last_line_given_its_feed o = (feed_given, feed_taken)

  -- a text that came in chunks has ended: with no line begun, with one that is answered, or with one that is given its line feed as one chunk
  -- more
  pub chunks_with_none_begun : {ts : List (List ℕ)} {o : List ℕ} → Chunks A [] ts o [] → Answers A (whole_text ts) o
  chunks_with_none_begun c = all_ended (chunks_whole c)

  pub chunks_with_one_begun : {ts : List (List ℕ)} {o k : List ℕ} (a : List ℕ) → Chunks A [] ts o k → 0 < length k → A k a → Answers A (whole_text ts) (o ++ (a ++ (10 ∷ [])))
  chunks_with_one_begun a c some g = last_begun a (chunks_whole c) some g

  pub chunks_given_the_feed : {o : List ℕ} (ts : List (List ℕ)) (t : List ℕ) (b : ℕ) → whole_text ts ≡ t ++ (b ∷ []) → (b ≡ 10 → ⊥)
      → Chunks A [] (ts ++ ((10 ∷ []) ∷ [])) o []
      → Answers A (whole_text ts) o
  chunks_given_the_feed {o} ts t b e ne c =
      subst (λ (x : List ℕ). Answers A x o) (sym e)
      (feed_taken t b ne
      (subst (λ (x : List ℕ). Answers A x o) (whole_text_more ts (10 ∷ []) ∙ ap (λ (x : List ℕ). x ++ (10 ∷ [])) e) (chunks_with_none_begun c)))

  -- where a line has one answer at most, so has a text
  module _ (once : (l a b : List ℕ) → A l a → A l b → a ≡ b) where
    step_once : {b : ℕ} {k a x j i : List ℕ} → Step A b k a j → Step A b k x i → (a ≡ x) × (j ≡ i)
    step_once (kept ne) (kept h) = (refl, refl)
    step_once (kept ne) (ended a e g) = absurd (ne e)
    step_once (ended a e g) (kept ne) = absurd (ne e)
    step_once {k = k} (ended a e g) (ended x f h) = (ap (λ (y : List ℕ). y ++ (10 ∷ [])) (once k a x g h), refl)

    lines_once : {l t o p k j : List ℕ} → Lines A l t o k → Lines A l t p j → (o ≡ p) × (k ≡ j)
    lines_once none q = same q refl
      where
        same : {l s p j : List ℕ} → Lines A l s p j → s ≡ [] → ([] ≡ p) × (l ≡ j)
        same none e = (refl, refl)
        same (more {t = t} b r w) e = absurd (no_last t b (sym e))
    lines_once {l} {t} {o} {p} {k} {j} (more {t = u} {o = v} {k = m} {a = a} b r w) q =
        let x = before u b q refl in
        let y = lines_once r x.lines in
        let z = step_once (subst (λ (c : List ℕ). Step A b c a k) y.1 w) x.step in
        (ap (λ (c : List ℕ). c ++ a) y.0 ∙ ap (λ (c : List ℕ). x.answers ++ c) z.0 ∙ sym x.whole, z.1)

    pub answers_once : {t o p : List ℕ} → Answers A t o → Answers A t p → o ≡ p
    answers_once (all_ended q) (all_ended r) = (lines_once q r).0
    answers_once (all_ended q) (last_begun a r some g) = let e = ap length (lines_once q r).1 in absurd (omega arith)
    answers_once (last_begun a q some g) (all_ended r) = let e = ap length (lines_once q r).1 in absurd (omega arith)
    answers_once {t} (last_begun {o} {k} a q some g) (last_begun {o = p} {k = j} x r more_bytes h) =
        let e = lines_once q r in
        ap (λ (y : List ℕ). y ++ (a ++ (10 ∷ []))) e.0
        ∙ ap (λ (y : List ℕ). p ++ (y ++ (10 ∷ []))) (once j a x (subst (λ (y : List ℕ). A y a) e.1 g) h)
