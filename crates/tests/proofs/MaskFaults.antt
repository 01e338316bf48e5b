-- Document 02, (ii): 4 exactly at an empty mask, and 13 exactly where none is empty and some mask names a missing core, each with its lowest task, and
-- 13 with the lowest such core of that task's mask; of the tests. (Of plan's answer: promises, MaskFaults.)
-- Assumes nothing.
use mathlib.Core.Path.{◌≡◌, refl, sym, ◌∙◌}
use mathlib.Core.Bool.{Bool, true, false, true≢false}
use mathlib.Core.List.{List}
use Prim.Native.Nat.{ℕ, ◌/◌, ◌^◌, ◌≤◌, ◌<◌}
use native.Mathlib.Nat.{div-eq_of_lt}
use native.Mathlib.Decide.{dec_lt}
use native.Mathlib.Omega.{arith}
use borrow.Author.Tests.{eqb-true, eqb-false, eq-eqb, ne_eqb, ltb-true, lt-ltb, le-ltb}
use lib.Dec.{eqb, ltb}
use lib.ListN.{length}
use Rattle.rules.specs.Sum.{first_at, lowest}
use Rattle.rules.specs.Sets.{has}
use Rattle.rules.specs.Plan.{at}
use Rattle.rules.specs.Tests.{Tested, refused, empty_mask, past_cores, lowest_missing, missing_task, missing_core, tested_set, tested}
use Rattle.rules.specs.MaskFaults.{Sized, Misses, EmptyAt, MissingAt, GoodMasks, after_masks}
use Rattle.rules.specs.declared.Answer.TheVariants.{EmptyMask, MissingCore}
use Rattle.sums.proofs.Lowest.{lowest_past, lowest_found, lowest_hit, lowest_none, lowest_before}
use Rattle.sums.proofs.Sets.{has_zero, has_one, has_above, has_below, below_of_bits}
use Rattle.tests.proofs.Cases.{number_told, FaultFree, tested_cases}
use Rattle.tests.proofs.FirstLaws.{first_passes, first_before, first_is, first_nowhere}
use Rattle.tests.proofs.MaskLaws.{missing}
use Rattle.tests.proofs.PassedLaws.{none_at, narrow_mask}

-- a number that is 0 is not 1
not_one : {k : ℕ} → k ≡ 0 → k ≡ 1 → ⊥
not_one e f = omega arith

-- one mask
module _ (m mask : ℕ) where
  pub clean_misses_none : past_cores m mask ≡ false → (d : ℕ) → Misses m mask d → ⊥
  clean_misses_none e d x = not_one (has_above m (narrow_mask m mask e) x.above) x.named

  pub misses_past : (d : ℕ) → Misses m mask d → past_cores m mask ≡ true
  misses_past d x = by (past_cores m mask) refl
    where
      by : (b : Bool) → past_cores m mask ≡ b → past_cores m mask ≡ true
      by true e = e
      by false e = absurd (clean_misses_none e d x)

  clean : mask < 2 ^ m → past_cores m mask ≡ false
  unfolding past_cores
  clean l = rw (eq-eqb (mask / 2 ^ m) 0 (div-eq_of_lt l)) refl

  -- a missing core, as `missing` counts it
  counted : (d : ℕ) → Misses m mask d → missing m mask d ≡ 1
  counted d x = rw (le-ltb d m x.above) x.named

  misses_of : (d : ℕ) → 0 < missing m mask d → Misses m mask d
  misses_of d h =
      elim (dec_lt d m) [
        | yes l ↦ absurd (none (rw (lt-ltb d m l) at h))
        | no g ↦ record { above = omega arith; named = has_one mask d (λ z. none (rw (le-ltb d m (omega arith), z) at h)) }
      ]
    where
      none : 0 < 0 → ⊥
      none h = omega arith

  module _ (wide : mask < 2 ^ 16) where
    -- some missing core is below 16
    lowest_below : past_cores m mask ≡ true → lowest 16 (missing m mask) < 16
    lowest_below e =
        elim (dec_lt (lowest 16 (missing m mask)) 16) [
          | yes l ↦ l
          | no g ↦ absurd (true≢false (sym e ∙ clean (below_of_bits 16 m mask wide (λ j k. no_bit (omega arith) j k))))
        ]
      where
        no_bit : 16 ≤ lowest 16 (missing m mask) → (j : ℕ) → m ≤ j → has mask j ≡ 0
        no_bit g j k =
            elim (dec_lt j 16) [
              | yes l ↦ has_zero mask j (λ o. not_one (lowest_none 16 (missing m mask) g j l) (counted j (record { above = k; named = o })))
              | no n ↦ has_above 16 wide (omega arith)
            ]

    pub lowest_misses : past_cores m mask ≡ true → Misses m mask (lowest_missing m mask)
    unfolding lowest_missing
    lowest_misses e = misses_of (lowest 16 (missing m mask)) (lowest_hit 16 (missing m mask) (lowest_below e))

    pub none_lower : (d : ℕ) → d < lowest_missing m mask → Misses m mask d → ⊥
    unfolding lowest_missing
    none_lower d l x = not_one (lowest_before 16 (missing m mask) d l) (counted d x)

    pub lowest_is : (c : ℕ) → Misses m mask c → ((d : ℕ) → d < c → Misses m mask d → ⊥) → c ≡ lowest_missing m mask
    unfolding lowest_missing
    lowest_is c x h = lowest_found (missing m mask) 16 c (has_below 16 wide x.named) (lowest_past (missing m mask) c below) (omega (arith, counted c x))
      where
        below : (d : ℕ) → d < c → missing m mask d ≡ 0
        below d l =
            elim (dec_lt 0 (missing m mask d)) [
              | yes s ↦ absurd (h d l (misses_of d s))
              | no z ↦ omega arith
            ]

apart : {A : Type 0} (n k : ℕ) → eqb n k ≡ false → n ≡ k → A
apart n k f e = absurd (eqb-false n k f e)

module _ (F m : ℕ) (budgets masks table : List ℕ) where
  abbrev said : Tested
  said = tested F m budgets masks table

  empty_none : (k : ℕ) → empty_mask (at masks k) ≡ false → at masks k ≡ 0 → ⊥
  unfolding empty_mask
  empty_none k e = eqb-false (at masks k) 0 e

  empty_true : (k : ℕ) → at masks k ≡ 0 → empty_mask (at masks k) ≡ true
  unfolding empty_mask
  empty_true k e = eq-eqb (at masks k) 0 e

  empty_false : (k : ℕ) → (at masks k ≡ 0 → ⊥) → empty_mask (at masks k) ≡ false
  unfolding empty_mask
  empty_false k n = ne_eqb (at masks k) 0 n

  empty_here : first_at empty_mask masks < length masks → EmptyAt masks (first_at empty_mask masks)
  unfolding empty_mask
  empty_here l =
      record {
        task = l;
        empty = eqb-true (at masks (first_at empty_mask masks)) 0 (first_passes empty_mask masks l);
        lowest = λ k h. empty_none k (first_before empty_mask masks k h);
      }

  -- what 4 says
  pub record FourSays : Type 0 where
    pub sized : Sized F m budgets masks
    pub task : ℕ
    pub named : EmptyAt masks task
    pub answer : said ≡ refused (EmptyMask task)

  pub tested_four : number_told said ≡ 4 → FourSays
  tested_four n = tested_cases F m budgets masks table (λ t. said ≡ t → number_told t ≡ 4 → FourSays) (λ s. apart 1 4 refl) (λ s. apart 2 4 refl) (λ s. apart 3 4 refl)
      four (λ z e k s. apart 13 4 refl) (λ z g b s. apart 5 4 refl) (λ z g b s. apart 6 4 refl) (λ z g s. apart 0 4 refl) refl n
    where
      four : Sized F m budgets masks → ltb (first_at empty_mask masks) (length masks) ≡ true → said ≡ refused (EmptyMask (first_at empty_mask masks)) → ◌≡◌ {A = ℕ} 4 4 → FourSays
      four z e s n = record { sized = z; task = first_at empty_mask masks; named = empty_here (ltb-true _ _ e); answer = s }

  pub four_tested : (i : ℕ) → Sized F m budgets masks → EmptyAt masks i → said ≡ refused (EmptyMask i)
  unfolding tested tested_set
  four_tested i z x = rw (z.frame, z.cores, z.tasks, first, lt-ltb i (length masks) x.task) refl
    where
      first : first_at empty_mask masks ≡ i
      first = first_is empty_mask masks i x.task (empty_true i x.empty) (λ k l. empty_false k (x.lowest k l))

  -- no mask is empty, and none names a missing core
  good : FaultFree F m budgets masks table → GoodMasks m masks
  good g =
      record {
        none_empty = λ k l. empty_none k (none_at empty_mask masks g.not_empty k l);
        none_missing = λ k l. clean_misses_none m (at masks k) (none_at (past_cores m) masks g.not_missing k l);
      }

  -- what comes after both leaves good masks
  pub record LaterSays : Type 0 where
    pub sized : Sized F m budgets masks
    pub good : GoodMasks m masks

  pub tested_later : after_masks (number_told said) ≡ true → LaterSays
  unfolding after_masks
  tested_later n =
      tested_cases F m budgets masks table (λ t. after_masks (number_told t) ≡ true → LaterSays) other other other (λ z e. other) (λ z e k. other) (λ z g b n. later z g) (λ z g s n. later z g)
      (λ z g n. later z g) n
    where
      other : false ≡ true → LaterSays
      other e = absurd (true≢false (sym e))

      later : Sized F m budgets masks → FaultFree F m budgets masks table → LaterSays
      later z g = record { sized = z; good = good g }

  -- masks are numbers of 16 bits
  module _ (wide : (k : ℕ) → at masks k < 2 ^ 16) where
    -- what 13 says
    pub record ThirteenSays : Type 0 where
      pub sized : Sized F m budgets masks
      pub task : ℕ
      pub core : ℕ
      pub named : MissingAt m masks task core
      pub answer : said ≡ refused (MissingCore task core)

    missing_here : ltb (first_at empty_mask masks) (length masks) ≡ false → missing_task m masks < length masks → MissingAt m masks (missing_task m masks) (missing_core m masks)
    missing_here e l =
        record {
          none_empty = λ k h. empty_none k (none_at empty_mask masks e k h);
          task = l;
          core = lowest_misses m (at masks (missing_task m masks)) (wide _) (first_passes (past_cores m) masks l);
          lowest_core = none_lower m (at masks (missing_task m masks)) (wide _);
          lowest_task = λ k h. clean_misses_none m (at masks k) (first_before (past_cores m) masks k h);
        }

    pub tested_thirteen : number_told said ≡ 13 → ThirteenSays
    tested_thirteen n = tested_cases F m budgets masks table (λ t. said ≡ t → number_told t ≡ 13 → ThirteenSays) (λ s. apart 1 13 refl) (λ s. apart 2 13 refl) (λ s. apart 3 13 refl)
        (λ z e s. apart 4 13 refl) thirteen (λ z g b s. apart 5 13 refl) (λ z g b s. apart 6 13 refl) (λ z g s. apart 0 13 refl) refl n
      where
        thirteen : Sized F m budgets masks → ltb (first_at empty_mask masks) (length masks) ≡ false → ltb (missing_task m masks) (length masks) ≡ true
            → said ≡ refused (MissingCore (missing_task m masks) (missing_core m masks)) → ◌≡◌ {A = ℕ} 13 13 → ThirteenSays
        thirteen z e k s n = record { sized = z; task = missing_task m masks; core = missing_core m masks; named = missing_here e (ltb-true _ _ k); answer = s }

    pub thirteen_tested : (i c : ℕ) → Sized F m budgets masks → MissingAt m masks i c → said ≡ refused (MissingCore i c)
    unfolding tested tested_set
    thirteen_tested i c z x = rw (z.frame, z.cores, z.tasks, none, first, lt-ltb i (length masks) x.task, ← found) refl
      where
        none : ltb (first_at empty_mask masks) (length masks) ≡ false
        none = le-ltb _ _ (first_nowhere empty_mask masks (λ k l. empty_false k (x.none_empty k l)))

        before : (k : ℕ) → k < i → (b : Bool) → past_cores m (at masks k) ≡ b → past_cores m (at masks k) ≡ false
        before k l true e = absurd (x.lowest_task k l (lowest_missing m (at masks k)) (lowest_misses m (at masks k) (wide k) e))
        before k l false e = e

        first : first_at (past_cores m) masks ≡ i
        first = first_is (past_cores m) masks i x.task (misses_past m (at masks i) c x.core) (λ k l. before k l (past_cores m (at masks k)) refl)

        found : c ≡ lowest_missing m (at masks i)
        found = lowest_is m (at masks i) (wide i) c x.core x.lowest_core
