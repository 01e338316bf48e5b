-- Taking a graph of units apart: the start, one vertex more, fewer units, and the certificate at the end.
-- Assumes nothing.
use mathlib.Core.Path.{◌≡◌, refl, sym, ◌∙◌, ap, subst}
use Prim.Native.Nat.{ℕ, suc, ◌+◌, ◌-◌, ◌*◌, ◌^◌, ◌≤◌, ◌<◌}
use native.Mathlib.Decide.{ℕ_discrete}
use native.Mathlib.Omega.{arith}
use lib.Bits.{bit_or}
use Rattle.rules.specs.Sum.{sum_to, put, positive}
use Rattle.rules.specs.Sets.{has}
use Rattle.sums.proofs.Sum.{put_same, put_other, sum_put, sum_term, sum_cong, sum_zero, positive_of}
use Rattle.sums.proofs.Sets.{has_lt, has_none, with_same, with_other}
use Rattle.forest.specs.Peeled.{Peeled}
use Rattle.forest.specs.Stripping.{there, links, Stripping, Fast}
use Rattle.forest.specs.Path.{FirstThere}

-- nothing is gone
pub strip_none : (n m : ℕ) (x : ℕ → ℕ → ℕ) → Stripping n m x 0 0
strip_none n m x =
    record {
      s = 0;
      task_rank = λ i. 0;
      core_rank = λ j. 0;
      task_gone = λ i l h. absurd (no h (has_none i));
      task_there = λ i l h. refl;
      core_gone = λ j l h. absurd (no h (has_none j));
      core_there = λ j l h. refl;
      apart = λ i l j k e. omega arith;
      task_one = λ i l j k p q u v a b. absurd (never a);
      core_one = λ j l i h p q u v a b. absurd (never a);
    }
  where
    no : {a : ℕ} → a ≡ 1 → a ≡ 0 → ⊥
    no p q = omega arith

    never : 0 < 0 → ⊥
    never h = omega arith

-- the two kinds of vertex change places
pub strip_turned : (n m : ℕ) (x : ℕ → ℕ → ℕ) (g h : ℕ) → Stripping n m x g h → Stripping m n (λ j i. x i j) h g
strip_turned n m x g h t =
    record {
      s = t.s;
      task_rank = t.core_rank;
      core_rank = t.task_rank;
      task_gone = t.core_gone;
      task_there = t.core_there;
      core_gone = t.task_gone;
      core_there = t.task_there;
      apart = λ j l i k e. subst (λ (r : ℕ). t.s ≤ r) (sym e) (t.apart i k j l (sym e));
      task_one = t.core_one;
      core_one = t.task_one;
    }

-- fewer units
pub strip_fewer : (n m : ℕ) (x y : ℕ → ℕ → ℕ) (g h : ℕ) → Stripping n m x g h
    → ((i : ℕ) → i < n → (j : ℕ) → j < m → 0 < y i j → 0 < x i j) → Stripping n m y g h
strip_fewer n m x y g h t less =
    record {
      s = t.s;
      task_rank = t.task_rank;
      core_rank = t.core_rank;
      task_gone = t.task_gone;
      task_there = t.task_there;
      core_gone = t.core_gone;
      core_there = t.core_there;
      apart = t.apart;
      task_one = λ i l j k p q u v. t.task_one i l j k p q (less i l j p u) (less i l k q v);
      core_one = λ j l i h p q u v. t.core_one j l i h p q (less i p j l u) (less h q j l v);
    }

-- all is gone
pub strip_whole : (n m : ℕ) (x : ℕ → ℕ → ℕ) (g h : ℕ) → Stripping n m x g h
    → ((i : ℕ) → i < n → has g i ≡ 1) → ((j : ℕ) → j < m → has h j ≡ 1) → Peeled n m x
strip_whole n m x g h t tasks cores =
    record {
      task_rank = t.task_rank;
      core_rank = t.core_rank;
      apart = λ i l j k u e. beat (t.apart i l j k e) (t.task_gone i l (tasks i l));
      task_one = t.task_one;
      core_one = t.core_one;
    }
  where
    beat : {a b : ℕ} → a ≤ b → b < a → ⊥
    beat p q = omega arith

-- a sum of at most 1 has at most one place that is not 0
pub one_place : (n : ℕ) (f : ℕ → ℕ) → sum_to n f ≤ 1 → (j k : ℕ) → j < n → k < n → 0 < f j → 0 < f k → j ≡ k
one_place n f few j k p q u v =
    elim (ℕ_discrete j k) [ yes e ↦ e | no ne ↦ absurd (too (sum_put n j 0 f p) (sum_term n k (put j 0 f) q) (put_other j 0 f k (λ e. ne (sym e))) few u v) ]
  where
    too : {a b c d e : ℕ} → a + b ≡ c + 0 → d ≤ a → d ≡ e → c ≤ 1 → 0 < b → 0 < e → ⊥
    too p q r s t u = omega arith

-- the moment of a vertex after the next has gone: it keeps the moment, the others that are there have the next
module _ (n m : ℕ) (x : ℕ → ℕ → ℕ) (g h v : ℕ) (t : Stripping n m x g h) (below : v < n) (still : has g v ≡ 0) (few : links m h x v ≤ 1) where
  next : ℕ → ℕ
  next i = put v t.s (λ k. t.task_rank k + there g k) i

  next_core : ℕ → ℕ
  next_core j = t.core_rank j + there h j

  module _ (i : ℕ) (l : i < n) where
    next_self : i ≡ v → next i ≡ t.s
    unfolding next
    next_self e = rw e (put_same v t.s (λ k. t.task_rank k + there g k))

    next_gone : (i ≡ v → ⊥) → has g i ≡ 1 → next i ≡ t.task_rank i
    unfolding next
    next_gone ne e = put_other v t.s (λ k. t.task_rank k + there g k) i ne ∙ omega (arith, e)

    next_there : (i ≡ v → ⊥) → has g i ≡ 0 → next i ≡ suc t.s
    unfolding next
    next_there ne e = put_other v t.s (λ k. t.task_rank k + there g k) i ne ∙ omega (arith, e, t.task_there i l e)

  core_after_gone : (j : ℕ) → has h j ≡ 1 → next_core j ≡ t.core_rank j
  unfolding next_core
  core_after_gone j e = omega (arith, e)

  core_after_there : (j : ℕ) → j < m → has h j ≡ 0 → next_core j ≡ suc t.s
  unfolding next_core
  core_after_there j l e = omega (arith, e, t.core_there j l e)

  -- what is known of a task: it is v, or gone before, or still there
  data Task (i : ℕ) : Type 0 where
    self : i ≡ v → next i ≡ t.s → t.task_rank i ≡ t.s → Task i
    gone : (i ≡ v → ⊥) → next i ≡ t.task_rank i → t.task_rank i < t.s → Task i
    left : (i ≡ v → ⊥) → next i ≡ suc t.s → t.task_rank i ≡ t.s → Task i

  data Core (j : ℕ) : Type 0 where
    gone : has h j ≡ 1 → next_core j ≡ t.core_rank j → t.core_rank j < t.s → Core j
    left : has h j ≡ 0 → next_core j ≡ suc t.s → t.core_rank j ≡ t.s → Core j

  task_is : (i : ℕ) → i < n → Task i
  task_is i l =
      elim (ℕ_discrete i v) [
        | yes e ↦ Task.self e (next_self i l e) (t.task_there i l (ap (has g) e ∙ still))
        | no ne ↦
            elim (ℕ_discrete (has g i) 0) [
              | yes z ↦ Task.left ne (next_there i l ne z) (t.task_there i l z)
              | no o ↦ Task.gone ne (next_gone i l ne (one o)) (t.task_gone i l (one o))
            ]
      ]
    where
      one : (has g i ≡ 0 → ⊥) → has g i ≡ 1
      one o = omega (arith, has_lt g i)

  core_is : (j : ℕ) → j < m → Core j
  core_is j l =
      elim (ℕ_discrete (has h j) 0) [
        | yes z ↦ Core.left z (core_after_there j l z) (t.core_there j l z)
        | no o ↦ Core.gone (one o) (core_after_gone j (one o)) (t.core_gone j l (one o))
      ]
    where
      one : (has h j ≡ 0 → ⊥) → has h j ≡ 1
      one o = omega (arith, has_lt h j)

  apart_at : (i j : ℕ) → Task i → Core j → (t.task_rank i ≡ t.core_rank j → t.s ≤ t.task_rank i) → next i ≡ next_core j → suc t.s ≤ next i
  apart_at i j (self e p q) (gone a b d) old w = omega arith
  apart_at i j (self e p q) (left a b d) old w = omega arith
  apart_at i j (gone e p q) (gone a b d) old w = omega (arith, old (omega arith))
  apart_at i j (gone e p q) (left a b d) old w = omega arith
  apart_at i j (left e p q) (gone a b d) old w = omega arith
  apart_at i j (left e p q) (left a b d) old w = omega arith

  -- a core that is later than v is still there
  later_than_self : (i j : ℕ) → next i ≡ t.s → Core j → next i < next_core j → has h j ≡ 0
  later_than_self i j e (gone a b d) w = absurd (wrong e b d w)
    where
      wrong : {a b c s : ℕ} → a ≡ s → b ≡ c → c < s → a < b → ⊥
      wrong p q r u = omega arith
  later_than_self i j e (left a b d) w = a

  -- later after the step is later before it, for a task that was gone
  later_before : (i j : ℕ) → next i ≡ t.task_rank i → t.task_rank i < t.s → Core j → next i < next_core j → t.task_rank i < t.core_rank j
  later_before i j e f (gone a b d) w = omega arith
  later_before i j e f (left a b d) w = omega arith

  linked : (j : ℕ) → has h j ≡ 0 → 0 < x v j → 0 < there h j * positive (x v j)
  linked j z u = rw (z, positive_of (x v j) u) (omega arith)

  task_one_at : (i : ℕ) → i < n → Task i → (j k : ℕ) → j < m → k < m → 0 < x i j → 0 < x i k → next i < next_core j → next i < next_core k → j ≡ k
  unfolding links
  task_one_at i l (self e p q) j k a b u w c d =
      one_place m (λ j. there h j * positive (x v j)) few j k a b
      (linked j (later_than_self i j p (core_is j a) c) (subst (λ (y : ℕ). 0 < x y j) e u))
      (linked k (later_than_self i k p (core_is k b) d) (subst (λ (y : ℕ). 0 < x y k) e w))
  task_one_at i l (gone e p q) j k a b u w c d = t.task_one i l j k a b u w (later_before i j p q (core_is j a) c) (later_before i k p q (core_is k b) d)
  task_one_at i l (left e p q) j k a b u w c d = absurd (none (core_is j a) c)
    where
      none : Core j → next i < next_core j → ⊥
      none (gone x y z) w = omega arith
      none (left x y z) w = omega arith

  core_later : (j i : ℕ) → next_core j ≡ t.core_rank j → t.core_rank j < t.s → Task i → next_core j < next i → t.core_rank j < t.task_rank i
  core_later j i e f (self a b d) w = omega arith
  core_later j i e f (gone a b d) w = omega arith
  core_later j i e f (left a b d) w = omega arith

  core_one_at : (j : ℕ) → j < m → Core j → (i k : ℕ) → i < n → k < n → 0 < x i j → 0 < x k j → next_core j < next i → next_core j < next k → i ≡ k
  core_one_at j l (gone a b d) i k p q u w c e = t.core_one j l i k p q u w (core_later j i b d (task_is i p) c) (core_later j k b d (task_is k q) e)
  core_one_at j l (left a b d) i k p q u w c e = absurd (none (task_is i p) c)
    where
      none : Task i → next_core j < next i → ⊥
      none (self x y z) w = omega arith
      none (gone x y z) w = omega arith
      none (left x y z) w = omega arith

  -- v, which has at most one core that is still there, goes
  pub strip_task : Stripping n m x (bit_or g (2 ^ v)) h
  strip_task =
      record {
        s = suc t.s;
        task_rank = next;
        core_rank = next_core;
        task_gone = λ i l e. task_gone_at i l (task_is i l) e;
        task_there = λ i l e. task_there_at i l (task_is i l) e;
        core_gone = λ j l e. core_gone_at j (core_is j l) e;
        core_there = λ j l e. core_there_at j (core_is j l) e;
        apart = λ i l j k e. apart_at i j (task_is i l) (core_is j k) (t.apart i l j k) e;
        task_one = λ i l. task_one_at i l (task_is i l);
        core_one = λ j l. core_one_at j l (core_is j l);
      }
    where
      task_gone_at : (i : ℕ) → i < n → Task i → has (bit_or g (2 ^ v)) i ≡ 1 → next i < suc t.s
      task_gone_at i l (self a b d) e = omega arith
      task_gone_at i l (gone a b d) e = omega arith
      task_gone_at i l (left a b d) e = absurd (wrong (t.task_gone i l (sym (with_other g v i a) ∙ e)) d)
        where
          wrong : {a b : ℕ} → a < b → a ≡ b → ⊥
          wrong p q = omega arith

      task_there_at : (i : ℕ) → i < n → Task i → has (bit_or g (2 ^ v)) i ≡ 0 → next i ≡ suc t.s
      task_there_at i l (self a b d) e = absurd (wrong (ap (has (bit_or g (2 ^ v))) a ∙ with_same g v) e)
        where
          wrong : {a : ℕ} → a ≡ 1 → a ≡ 0 → ⊥
          wrong p q = omega arith
      task_there_at i l (gone a b d) e = absurd (wrong (t.task_there i l (sym (with_other g v i a) ∙ e)) d)
        where
          wrong : {a b : ℕ} → a ≡ b → a < b → ⊥
          wrong p q = omega arith
      task_there_at i l (left a b d) e = b

      core_gone_at : (j : ℕ) → Core j → has h j ≡ 1 → next_core j < suc t.s
      core_gone_at j (gone a b d) e = omega arith
      core_gone_at j (left a b d) e = absurd (wrong a e)
        where
          wrong : {a : ℕ} → a ≡ 0 → a ≡ 1 → ⊥
          wrong p q = omega arith

      core_there_at : (j : ℕ) → Core j → has h j ≡ 0 → next_core j ≡ suc t.s
      core_there_at j (gone a b d) e = absurd (wrong a e)
        where
          wrong : {a : ℕ} → a ≡ 1 → a ≡ 0 → ⊥
          wrong p q = omega arith
      core_there_at j (left a b d) e = b

-- the same for a core, which has at most one task that is still there
pub strip_core : (n m : ℕ) (x : ℕ → ℕ → ℕ) (g h v : ℕ) → Stripping n m x g h → v < m → has h v ≡ 0 → links n g (λ j i. x i j) v ≤ 1
    → Stripping n m x g (bit_or h (2 ^ v))
strip_core n m x g h v t below still few =
    strip_turned m n (λ j i. x i j) (bit_or h (2 ^ v)) g (strip_task m n (λ j i. x i j) h g v (strip_turned n m x g h t) below still few)

-- one vertex less is still there
pub fewer_there : (n g v : ℕ) → v < n → has g v ≡ 0 → sum_to n (there (bit_or g (2 ^ v))) < sum_to n (there g)
fewer_there n g v l z =
    less (sum_cong n {f = there (bit_or g (2 ^ v))} {g = put v 0 (there g)} same) (sum_put n v 0 (there g) l) (one z)
  where
    same : (i : ℕ) → i < n → there (bit_or g (2 ^ v)) i ≡ put v 0 (there g) i
    same i k =
        elim (ℕ_discrete i v) [
          | yes e ↦ ap (λ (w : ℕ). there (bit_or g (2 ^ v)) w) e ∙ ap (λ (w : ℕ). 1 - w) (with_same g v) ∙ sym (put_same v 0 (there g)) ∙ ap (λ (w : ℕ). put v 0 (there g) w) (sym e)
          | no ne ↦ ap (λ (w : ℕ). 1 - w) (with_other g v i ne) ∙ sym (put_other v 0 (there g) i ne)
        ]

    one : has g v ≡ 0 → there g v ≡ 1
    one z = ap (λ (w : ℕ). 1 - w) z

    less : {a b c d : ℕ} → a ≡ b → b + c ≡ d + 0 → c ≡ 1 → a < d
    less p q r = omega arith

-- all tasks are gone, and nothing is loose: then no core is left either
pub all_gone : (n m : ℕ) (x : ℕ → ℕ → ℕ) (g h r : ℕ) → Stripping n m x g h → Fast n m x g h → FirstThere n g r → n ≤ r → Peeled n m x
unfolding links
all_gone n m x g h r s f t l = strip_whole n m x g h s tasks cores
  where
    tasks : (i : ℕ) → i < n → has g i ≡ 1
    tasks i k = t.before i (omega arith)

    nothing : (j : ℕ) → sum_to n (λ i. there g i * positive (x i j)) ≡ 0
    nothing j = sum_zero n (λ i k. ap (λ (v : ℕ). (1 - v) * positive (x i j)) (tasks i k) ∙ none (positive (x i j)))
      where
        none : (v : ℕ) → (1 - 1) * v ≡ 0
        none v = omega arith

    cores : (j : ℕ) → j < m → has h j ≡ 1
    cores j k = elim (ℕ_discrete (has h j) 0) [ yes z ↦ absurd (few (f.cores_fast j k z) (nothing j)) | no ne ↦ one (has_lt h j) ne ]
      where
        few : {v : ℕ} → 2 ≤ v → v ≡ 0 → ⊥
        few p q = omega arith

        one : {v : ℕ} → v < 2 → (v ≡ 0 → ⊥) → v ≡ 1
        one p q = omega arith
