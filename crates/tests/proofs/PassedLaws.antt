-- What is known of a set that passed the tests.
-- Assumes nothing.
use mathlib.Core.Path.{◌≡◌, refl, sym, subst}
use mathlib.Core.Bool.{Bool, true, false, cond, not}
use mathlib.Core.List.{List}
use Prim.Native.Nat.{ℕ, ◌+◌, ◌*◌, ◌/◌, ◌%◌, ◌^◌, ◌≤◌, ◌<◌}
use native.Mathlib.Nat.{mod-lt}
use native.Mathlib.Omega.{arith}
use borrow.Author.Tests.{eqb-false, eqb-true, ltb-false, not-false}
use lib.Dec.{eqb, ltb}
use lib.ListN.{length, get_or}
use lib.Pow.{split, pow_pos}
use Rattle.rules.specs.Sum.{first_at}
use Rattle.rules.specs.Piece.{whole_pieces}
use Rattle.rules.specs.Plan.{at}
use Rattle.rules.specs.Tests.{Tested, refused, passed, bad_frame, bad_cores, bad_tasks, empty_mask, past_cores, missing_task, missing_core, bad_budget, short_table, tested_set, then_room, tested}
use Rattle.rules.specs.declared.Answer.{Answer}
use Rattle.rules.specs.declared.Answer.TheVariants.{FrameLength, CoreCount, TaskCount, EmptyMask, Budget, ShortTable, MissingCore}
use Rattle.sums.proofs.Both.{or_left, or_right}
use Rattle.tests.specs.Given.{Given, Admitted}
use Rattle.tests.proofs.FirstLaws.{first_before}

never : (a : Answer) → refused a ≡ passed → ⊥
never a e = let z : ◌≡◌ {A = ℕ} 0 1 = cc in omega arith

-- a test that was passed, and what comes after it
passes : (b : Bool) (a : Answer) (t : Tested) → cond b (refused a) t ≡ passed → (b ≡ false) × (t ≡ passed)
passes true a t e = absurd (never a e)
passes false a t e = (refl, e)

-- where no place passes, the test fails at each
pub none_at : (p : ℕ → Bool) (s : List ℕ) → ltb (first_at p s) (length s) ≡ false → (i : ℕ) → i < length s → p (get_or s i 0) ≡ false
none_at p s e i l = first_before p s i (omega (arith, l, ltb-false (first_at p s) (length s) e))

-- a mask that shifted right by m leaves nothing
pub narrow_mask : (m mask : ℕ) → past_cores m mask ≡ false → mask < 2 ^ m
unfolding past_cores
narrow_mask m mask e = below (eqb-true _ _ (not-false _ e))
  where
    below : mask / 2 ^ m ≡ 0 → mask < 2 ^ m
    below z = omega (arith, subst (λ (q : ℕ). q * 2 ^ m + mask % 2 ^ m ≡ mask) z (split mask m), mod-lt mask (pow_pos m))

module _ (F m : ℕ) (budgets masks : List ℕ) (e : tested_set F m budgets masks ≡ passed) where
  abbrev empty_place : ℕ
  empty_place = first_at empty_mask masks

  abbrev budget_place : ℕ
  budget_place = first_at (bad_budget F) budgets

  abbrev after13 : Tested
  after13 = cond (ltb budget_place (length budgets)) (refused (Budget budget_place)) passed

  abbrev after4 : Tested
  after4 = cond (ltb (missing_task m masks) (length masks)) (refused (MissingCore (missing_task m masks) (missing_core m masks))) after13

  abbrev after3 : Tested
  after3 = cond (ltb empty_place (length masks)) (refused (EmptyMask empty_place)) after4

  abbrev after2 : Tested
  after2 = cond (bad_tasks budgets masks) (refused TaskCount) after3

  abbrev after1 : Tested
  after1 = cond (bad_cores m) (refused CoreCount) after2

  first : (bad_frame F ≡ false) × (after1 ≡ passed)
  unfolding tested_set
  first = passes (bad_frame F) FrameLength after1 e

  second : (bad_cores m ≡ false) × (after2 ≡ passed)
  second = passes (bad_cores m) CoreCount after2 first.1

  third : (bad_tasks budgets masks ≡ false) × (after3 ≡ passed)
  third = passes (bad_tasks budgets masks) TaskCount after3 second.1

  fourth : (ltb empty_place (length masks) ≡ false) × (after4 ≡ passed)
  fourth = passes (ltb empty_place (length masks)) (EmptyMask empty_place) after4 third.1

  thirteenth : (ltb (missing_task m masks) (length masks) ≡ false) × (after13 ≡ passed)
  thirteenth = passes (ltb (missing_task m masks) (length masks)) (MissingCore (missing_task m masks) (missing_core m masks)) after13 fourth.1

  fifth : ltb budget_place (length budgets) ≡ false
  fifth = (passes (ltb budget_place (length budgets)) (Budget budget_place) passed thirteenth.1).0

  paired : length masks ≡ length budgets
  unfolding bad_tasks
  paired = sym (eqb-true _ _ (not-false _ (or_right (ltb 64 (length budgets)) (not (eqb (length budgets) (length masks))) third.0)))

  some : {k : ℕ} → (k ≡ 0 → ⊥) → 1 ≤ k
  some ne = omega arith

  pub passed_set : Given F m budgets masks
  unfolding bad_frame bad_cores bad_tasks bad_budget
  passed_set =
      record {
        frame_some = some (eqb-false _ _ (or_left (eqb F 0) (ltb 1000000 F) first.0));
        frame = ltb-false _ _ (or_right (eqb F 0) (ltb 1000000 F) first.0);
        cores_some = some (eqb-false _ _ (or_left (eqb m 0) (ltb 16 m) second.0));
        cores = ltb-false _ _ (or_right (eqb m 0) (ltb 16 m) second.0);
        tasks = ltb-false _ _ (or_left (ltb 64 (length budgets)) (not (eqb (length budgets) (length masks))) third.0);
        paired = paired;
        narrow = λ i l. narrow_mask m (at masks i) (none_at (past_cores m) masks thirteenth.0 i (subst (λ (k : ℕ). i < k) (sym paired) l));
        small = λ i l. ltb-false F (at budgets i) (none_at (bad_budget F) budgets fifth i l);
      }

-- what the test 6 asks
pub passed_tasks : (F m : ℕ) (budgets masks : List ℕ) → passed ≡ tested_set F m budgets masks → length budgets ≤ 64
passed_tasks F m budgets masks e = (passed_set F m budgets masks (sym e)).tasks

-- where all tests are passed, those of the set are, and there is room
room_passed : (b : Bool) (t : Tested) → then_room b t ≡ passed → (t ≡ passed) × (b ≡ false)
room_passed b (refused a) e = absurd (never a e)
room_passed b passed e = (refl, (passes b ShortTable passed e).0)

pub passed_ready : (F m : ℕ) (budgets masks table : List ℕ) → tested F m budgets masks table ≡ passed → Admitted F m budgets masks table
unfolding tested short_table
passed_ready F m budgets masks table e =
    let p = room_passed (short_table (length budgets) m (whole_pieces table)) (tested_set F m budgets masks) e in
    record { given = passed_set F m budgets masks p.0; room = ltb-false _ _ p.1 }
