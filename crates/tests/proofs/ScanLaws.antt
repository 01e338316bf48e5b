-- The law on a test over all tasks: the first that it refuses.
-- Assumes nothing.
use mathlib.Core.Path.{◌≡◌, refl, ap}
use mathlib.Core.Bool.{Bool, true, false, cond}
use mathlib.Core.List.{List}
use Prim.Native.Nat.{ℕ, ◌/◌, ◌^◌, ◌<◌}
use native.Mathlib.Nat.{zero-div}
use borrow.Author.Tests.{eqb-true, eq-eqb, lt-ltb, le-ltb}
use lib.Dec.{ltb}
use lib.ListN.{length, get_or}
use Rattle.std.specs.Prelude.{Result, Ok, Err, OnOk, IfErr}
use Rattle.std.specs.List.{HoldsAt}
use Rattle.rules.specs.Sum.{first_at}
use Rattle.rules.specs.Tests.{Tested, refused, passed, empty_mask, past_cores}
use Rattle.rules.specs.declared.Answer.{Answer}
use Rattle.tests.specs.Verdict.{verdict_of, NoneRefused, FirstRefusal}
use Rattle.tests.proofs.FirstLaws.{first_is, first_nowhere}

-- a test that refuses the value x at place i, with the answer `say i x`, exactly where p passes
pub record Refuses (p : ℕ → Bool) (say : ℕ → ℕ → Answer) (Says : ℕ → ℕ → Result Unit Answer → Type 0) : Type 0 where
  pub refuses : (i x : ℕ) (a : Answer) → Says i x (Err a) → (p x ≡ true) × (a ≡ say i x)
  pub passes : (i x : ℕ) → Says i x (Ok tt) → p x ≡ false

module _ (p : ℕ → Bool) (say : ℕ → ℕ → Answer) (xs : List ℕ) where
  abbrev pub first_said : Tested
  first_said = cond (ltb (first_at p xs) (length xs)) (refused (say (first_at p xs) (get_or xs (first_at p xs) 0))) passed

  pub first_refused : {Says : ℕ → ℕ → Result Unit Answer → Type 0} {r : Result Unit Answer} → Refuses p say Says → FirstRefusal Says xs r → verdict_of r ≡ first_said
  first_refused {Says} {r} e f = by r f.passed f.refused
    where
      by : (r : Result Unit Answer) → OnOk r (NoneRefused Says xs (length xs)) → IfErr r (λ a. (i : ℕ) × (i < length xs) × HoldsAt (λ x. Says i x (Err a)) xs i × NoneRefused Says xs i) → verdict_of r ≡ first_said
      by (Ok _) none f = rw (le-ltb (first_at p xs) (length xs) (first_nowhere p xs (λ k l. e.passes k (get_or xs k 0) (none k 0 l)))) refl
      by (Err a) f (i, l, here, none) =
          let told = e.refuses i (get_or xs i 0) a (here 0) in
          let first : first_at p xs ≡ i = first_is p xs i l told.0 (λ k b. e.passes k (get_or xs k 0) (none k 0 b)) in
          rw (first, lt-ltb i (length xs) l) (ap refused told.1)

-- an empty mask names no core
pub empty_names_none : (m mask : ℕ) → empty_mask mask ≡ true → past_cores m mask ≡ false
unfolding empty_mask past_cores
empty_names_none m mask e = rw (eqb-true mask 0 e, eq-eqb (0 / 2 ^ m) 0 (zero-div (2 ^ m))) refl
