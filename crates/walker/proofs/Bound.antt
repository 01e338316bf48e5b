-- The finish bound: jobs whose releases lie a period T apart, each of at most c units, on a task that has b units a frame with
-- c × F at most b × T. Each job finishes by its release plus T plus F, and by its release plus T where F divides T.
-- It is proved over the rules' finish, job by job, and needs nothing of the pieces beside that.
-- Assumes nothing.
use mathlib.Core.Path.{◌≡◌, refl, sym, ◌∙◌, ap}
use mathlib.Core.Bool.{Bool, true, false}
use mathlib.Core.List.{List, [], ◌∷◌}
use Prim.Native.Nat.{ℕ, zero, suc, ◌+◌, ◌*◌, ◌/◌, ◌%◌, ◌≤◌, ◌<◌}
use native.Mathlib.Nat.{le_refl, le_trans, mul-le-mul_left, le_of_mul-le-mul_right, mul_assoc, mul_comm, mul_left_comm, mul_right_comm, lt-div-mul-add, max-eq_left, max-eq_right}
use native.Mathlib.Decide.{ℕ_discrete, dec_le}
use native.Mathlib.Omega.{arith}
use Rattle.rules.specs.Sum.{sum_to}
use Rattle.rules.specs.Piece.{Piece}
use Rattle.rules.specs.Service.{covers, covered, unit, units}
use Rattle.rules.specs.Finish.{Finish, Finishes, begin_of}
use Rattle.rules.specs.Paced.{Paced, Bounded}
use Rattle.sums.proofs.Sum.{sum_mono}
use Rattle.walker.proofs.Periodic.{again_frame, again_frames}

covered_one : (task i : ℕ) (ps : List Piece) → covered task i ps ≤ 1
unfolding covered
covered_one task i [] = omega arith
covered_one task i (p ∷ ps) = go (covers task i p) (covered_one task i ps)
  where
    go : (b : Bool) → covered task i ps ≤ 1 → elim b as (λ (x : Bool). ℕ) [ true ↦ 1 | false ↦ covered task i ps ] ≤ 1
    go true h = omega arith
    go false h = h

module _ (F : ℕ) (ps : List Piece) (task : ℕ) where
  pub units_mono : (a b : ℕ) → a ≤ b → units F ps task a ≤ units F ps task b
  units_mono a b h = sum_mono a b (unit F ps task) h

  units_next : (e : ℕ) → units F ps task (suc e) ≤ units F ps task e + 1
  unfolding sum_to
  units_next e = omega (arith, covered_one task (e % F) ps)

  -- a finish has no unit more than the job asks
  finish_exact : (begin job e : ℕ) → Finish F ps task begin job e → units F ps task e ≤ units F ps task begin + job
  finish_exact begin job e f =
      elim (ℕ_discrete e begin) [
        | yes d ↦ rw d (omega arith)
        | no d ↦ last e f.not_before d f
      ]
    where
      last : (e : ℕ) → begin ≤ e → (e ≡ begin → ⊥) → Finish F ps task begin job e → units F ps task e ≤ units F ps task begin + job
      last zero h d f = absurd (d (omega arith))
      last (suc e) h d f =
          elim (dec_le (units F ps task begin + job) (units F ps task e)) [
            | yes g ↦ absurd (early (f.least e (omega arith) g))
            | no g ↦ omega (arith, units_next e)
          ]
        where
          early : suc e ≤ e → ⊥
          early g = omega arith

  module _ (pos : 1 ≤ F) where
    pub units_later : (q a : ℕ) → units F ps task (q * F + a) ≡ q * units F ps task F + units F ps task a
    units_later q a =
        again_frames F pos (λ i. covered task i ps) q a
        ∙ ap (λ (n : ℕ). q * n + units F ps task a) (sym (again_frame F pos (λ i. covered task i ps) F (le_refl _)))

    module _ (T c : ℕ) (enough : c * F ≤ units F ps task F * T) where
      -- N periods and a frame give N jobs' units
      pub far : (t N : ℕ) → units F ps task t + N * c ≤ units F ps task (t + N * T + F)
      far t N =
          le_trans (omega (arith, units_later (suc (N * T / F)) t, whole))
          (units_mono (suc (N * T / F) * F + t) (t + N * T + F) (omega (arith, divided)))
        where
          divided : N * T / F * F ≤ N * T
          divided = native.Mathlib.Nat.div-mul-le_self (N * T) F

          above : N * T ≤ suc (N * T / F) * F
          above = omega (arith, lt-div-mul-add {a = N * T} pos)

          scaled : (N * c) * F ≤ (suc (N * T / F) * units F ps task F) * F
          scaled =
              rw (mul_assoc N c F, mul_right_comm (suc (N * T / F)) (units F ps task F) F, mul_comm (suc (N * T / F) * F) (units F ps task F))
              (le_trans (mul-le-mul_left N enough) (rw (mul_left_comm N (units F ps task F) T) (mul-le-mul_left (units F ps task F) above)))

          whole : N * c ≤ suc (N * T / F) * units F ps task F
          whole = le_of_mul-le-mul_right scaled pos

      -- N periods are enough where they are whole frames
      pub far_whole : (q : ℕ) → T ≡ q * F → (t N : ℕ) → units F ps task t + N * c ≤ units F ps task (t + N * T + 0)
      far_whole q e t N =
          rw (frames e) (omega (arith, units_later (N * q) t, whole))
        where
          frames : T ≡ q * F → t + N * T + 0 ≡ (N * q) * F + t
          frames e = rw (e, mul_assoc N q F) (omega arith)

          scaled : c * F ≤ (q * units F ps task F) * F
          scaled = rw (mul_right_comm q (units F ps task F) F, mul_comm (q * F) (units F ps task F), ← e) enough

          whole : N * c ≤ (N * q) * units F ps task F
          whole = rw (mul_assoc N q (units F ps task F)) (mul-le-mul_left N (le_of_mul-le-mul_right scaled pos))

      -- jobs a period apart
      module _ (X count : ℕ) (release job finish : ℕ → ℕ) (reach : (t N : ℕ) → units F ps task t + N * c ≤ units F ps task (t + N * T + X))
          (apart : (k : ℕ) → suc k < count → release k + T ≤ release (suc k)) (small : (k : ℕ) → k < count → job k ≤ c)
          (finishes : Finishes F ps task count release job finish) where
        -- since the instant t, a release, the task was asked the units of n + 1 jobs at most, a period apart
        record Busy (k : ℕ) : Type 0 where
          t : ℕ
          n : ℕ
          early : t + n * T ≤ release k
          asked : units F ps task (finish k) ≤ units F ps task t + suc n * c
          bound : finish k ≤ t + suc n * T + X

        -- a job that begins where the units since t are those of n jobs
        busy : (k t n begin : ℕ) → k < count → begin ≡ begin_of release finish k → begin ≤ t + suc n * T + X → t + n * T ≤ release k
            → units F ps task begin ≤ units F ps task t + n * c → Busy k
        busy k t n begin h b g e u =
            record {
              t = t;
              n = n;
              early = e;
              asked = omega (arith, finish_exact begin (job k) (finish k) f, small k h);
              bound = f.least (t + suc n * T + X) g (omega (arith, reach t (suc n), small k h));
            }
          where
            f : Finish F ps task begin (job k) (finish k)
            f = rw b (finishes k h)

        jobs : (k : ℕ) → k < count → Busy k
        unfolding begin_of
        jobs zero h = busy zero (release zero) 0 (release zero) h refl (omega arith) (omega arith) (omega arith)
        jobs (suc k) h =
            elim (dec_le (finish k) (release (suc k))) [
              | yes g ↦
                  busy (suc k) (release (suc k)) 0 (release (suc k)) h (sym (max-eq_left g)) (omega arith) (omega arith) (omega arith)
              | no g ↦
                  let b = jobs k (omega arith) in
                  busy (suc k) b.t (suc b.n) (finish k) h (sym (max-eq_right (omega arith))) (omega (arith, b.bound))
                  (omega (arith, b.early, apart k h)) b.asked
            ]

        pub finish_within : (k : ℕ) → k < count → finish k ≤ release k + T + X
        finish_within k h = omega (arith, (jobs k h).bound, (jobs k h).early)

-- each job finishes by its release plus the period plus the frame, and by its release plus the period where the frame divides the period
pub paced_bounded : (F : ℕ) (ps : List Piece) (task T c count : ℕ) (release job finish : ℕ → ℕ) → 1 ≤ F
    → Paced F (units F ps task F) T c count release job → Finishes F ps task count release job finish → Bounded F T count release finish
paced_bounded F ps task T c count release job finish pos h finishes =
    record {
      by_frame = finish_within F ps task pos T c h.enough F count release job finish (far F ps task pos T c h.enough) h.apart h.small finishes;
      by_period = λ q e k l.
          omega (arith, finish_within F ps task pos T c h.enough 0 count release job finish (far_whole F ps task pos T c h.enough q e) h.apart h.small finishes k l);
    }
