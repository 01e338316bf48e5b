-- Values worked out by hand, for a program whose answer to a line is the line itself: of which texts `Answers` says what.
-- Assumes nothing.
use mathlib.Core.Path.{◌≡◌, refl, sym, subst, ◌∙◌}
use mathlib.Core.Bool.{true, false}
use mathlib.Core.List.{List, [], ◌∷◌}
use Prim.Native.Nat.{ℕ}
use native.Mathlib.Omega.{arith}
use Rattle.stream.specs.Lines.{kept, ended, none, more, Holds, FedLine, Fed, Answers, all_ended, last_begun}
use Rattle.stream.specs.Reading as Reading
use Rattle.stream.specs.Reading.{started, stopped_at, came, stopped, given_its_feed, read, Handed}
use Rattle.stream.specs.Rounds.{Run, begins, round}
use Rattle.stream.specs.declared.input.Source.{Source}
use Rattle.stream.proofs.Chunks.{answers_once}
use Rattle.stream.proofs.Rounds.{run_answers}

-- the answer is the line itself
abbrev Itself : List ℕ → List ℕ → Type 0
Itself l a = a ≡ l

itself_once : (l a b : List ℕ) → Itself l a → Itself l b → a ≡ b
itself_once l a b e f = e ∙ sym f

-- the empty text has no line
pub nothing : Answers Itself [] []
nothing = all_ended none

-- one line feed ends one empty line, and that is answered
pub one_feed : Answers Itself (10 ∷ []) (10 ∷ [])
one_feed = all_ended (more 10 none (ended [] refl refl))

-- "a", line feed, "b": the last line has a byte and counts
pub without_its_feed : Answers Itself (97 ∷ 10 ∷ 98 ∷ []) (97 ∷ 10 ∷ 98 ∷ 10 ∷ [])
without_its_feed = last_begun (98 ∷ []) (more 98 (more 10 (more 97 none (kept (λ e. omega arith))) (ended (97 ∷ []) refl refl)) (kept (λ e. omega arith))) (omega arith) refl

-- the same with its line feed: no line more
pub with_its_feed : Answers Itself (97 ∷ 10 ∷ 98 ∷ 10 ∷ []) (97 ∷ 10 ∷ 98 ∷ 10 ∷ [])
with_its_feed = all_ended (more 10 (more 98 (more 10 (more 97 none (kept (λ e. omega arith))) (ended (97 ∷ []) refl refl)) (kept (λ e. omega arith))) (ended (98 ∷ []) refl refl))

-- "a", line feed, line feed: the empty line after it is one
pub empty_line_last : Answers Itself (97 ∷ 10 ∷ 10 ∷ []) (97 ∷ 10 ∷ 10 ∷ [])
empty_line_last = all_ended (more 10 (more 10 (more 97 none (kept (λ e. omega arith))) (ended (97 ∷ []) refl refl)) (ended [] refl refl))

-- nothing else is an answer: not what leaves the last line out, and not what answers an empty one at the end
pub not_left_out : Answers Itself (97 ∷ 10 ∷ 98 ∷ []) (97 ∷ 10 ∷ []) → ⊥
not_left_out h = let e = answers_once itself_once h without_its_feed in let z : ◌≡◌ {A = ℕ} 0 1 = cc in omega arith

pub no_line_more : Answers Itself (97 ∷ 10 ∷ []) (97 ∷ 10 ∷ 10 ∷ []) → ⊥
no_line_more h =
    let e = answers_once itself_once h (all_ended (more 10 (more 97 none (kept (λ x. omega arith))) (ended (97 ∷ []) refl refl))) in
    let z : ◌≡◌ {A = ℕ} 0 1 = cc in omega arith

-- a run of two rounds: "a" comes, and then nothing; the line gets its line feed and is answered, and "a" and a line feed are handed on
nothing_held : (l : List ℕ) → Holds (0 ∷ 0 ∷ []) 0 l → l ≡ []
nothing_held [] h = refl
nothing_held (b ∷ l) h = absurd (omega (arith, h.count))

one_held : (l : List ℕ) → Holds (97 ∷ 0 ∷ []) 1 l → l ≡ 97 ∷ []
one_held [] h = absurd (omega (arith, h.count))
one_held (b ∷ []) h = sym h.bytes
one_held (b ∷ c ∷ l) h = absurd (omega (arith, h.count))

byte_fed_lem : Fed Itself (97 ∷ []) (0 ∷ 0 ∷ []) 0 (0 ∷ 0 ∷ 0 ∷ []) 0 (97 ∷ 0 ∷ []) (0 ∷ 0 ∷ 0 ∷ []) (record { taken = 1; len = 1; used = 0 })
byte_fed_lem =
    record {
      few = omega arith;
      within = omega arith;
      taken = omega arith;
      some = omega arith;
      fed = λ l h.
          subst (λ (x : List ℕ). FedLine Itself x (97 ∷ []) (0 ∷ 0 ∷ 0 ∷ []) 0 (97 ∷ 0 ∷ []) (0 ∷ 0 ∷ 0 ∷ []) 1 0) (sym (nothing_held l h))
          (record {
            answers = [];
            begun = 97 ∷ [];
            lines = more 97 none (kept (λ e. omega arith));
            holds = record { count = refl; bytes = refl };
            written = record { front = refl; rest = refl; end = refl };
          });
    }

feed_fed_lem : Fed Itself (10 ∷ []) (97 ∷ 0 ∷ []) 1 (0 ∷ 0 ∷ 0 ∷ []) 0 (97 ∷ 0 ∷ []) (97 ∷ 10 ∷ 0 ∷ []) (record { taken = 1; len = 0; used = 2 })
feed_fed_lem =
    record {
      few = omega arith;
      within = omega arith;
      taken = omega arith;
      some = omega arith;
      fed = λ l h.
          subst (λ (x : List ℕ). FedLine Itself x (10 ∷ []) (0 ∷ 0 ∷ 0 ∷ []) 0 (97 ∷ 0 ∷ []) (97 ∷ 10 ∷ 0 ∷ []) 0 2) (sym (one_held l h))
          (record {
            answers = 97 ∷ 10 ∷ [];
            begun = [];
            lines = more 10 none (ended (97 ∷ []) refl refl);
            holds = record { count = refl; bytes = refl };
            written = record { front = refl; rest = refl; end = refl };
          });
    }

-- the input after the byte came, after it was fed, after the line feed was given, and after that was fed
abbrev byte_came : Source
byte_came = record { left = 1000000000000; at = 0; end = 1; begun = true; unread = false; unwritten = false }

abbrev byte_fed : Source
byte_fed = record { left = 1000000000000; at = 1; end = 1; begun = true; unread = false; unwritten = false }

abbrev feed_given : Source
feed_given = record { left = 0; at = 0; end = 1; begun = false; unread = false; unwritten = false }

abbrev feed_fed : Source
feed_fed = record { left = 0; at = 1; end = 1; begun = false; unread = false; unwritten = false }

byte_handed : Handed started (0 ∷ []) (97 ∷ []) byte_came
byte_handed =
    record { order = omega arith; within = omega arith; no_more = omega arith; next = read (λ h g. omega arith) (came 1 (omega arith) (omega arith) (omega arith) refl) }

feed_handed : Handed byte_fed (97 ∷ []) (10 ∷ []) feed_given
feed_handed =
    record { order = omega arith; within = omega arith; no_more = omega arith; next = read (λ h g. omega arith) (Reading.ended (omega arith) (given_its_feed refl (omega arith) refl refl)) }

end_handed : Handed feed_fed (10 ∷ []) (10 ∷ []) (stopped_at feed_fed)
end_handed = record { order = omega arith; within = omega arith; no_more = omega arith; next = read (λ h g. omega arith) (stopped refl refl) }

pub two_rounds : Run Itself (0 ∷ 0 ∷ []) (97 ∷ []) (97 ∷ 10 ∷ []) (10 ∷ []) feed_fed (97 ∷ 0 ∷ []) 0
unfolding byte_handed feed_handed
two_rounds = round (round begins byte_handed (omega arith) byte_fed_lem refl) feed_handed (omega arith) feed_fed_lem refl

pub two_rounds_answer : Answers Itself (97 ∷ []) (97 ∷ 10 ∷ [])
two_rounds_answer = run_answers (10 ∷ []) (stopped_at feed_fed) two_rounds end_handed (omega arith) refl refl
